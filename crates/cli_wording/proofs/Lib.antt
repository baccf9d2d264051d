-- Laws of the sayings.
pub mod Said
