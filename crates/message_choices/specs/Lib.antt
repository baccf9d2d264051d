-- What the decisions at a union ensure.
pub mod Choices
