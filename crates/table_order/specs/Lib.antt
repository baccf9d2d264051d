-- The open bodies as code keeps them.
pub mod Open
