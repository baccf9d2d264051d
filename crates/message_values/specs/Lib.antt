-- What the decisions at a value and at a brace ensure.
pub mod Values
