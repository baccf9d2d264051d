-- What the decisions in a body ensure.
pub mod Bodies
