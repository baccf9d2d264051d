pub mod Placed
pub mod Formed
pub mod Sees
