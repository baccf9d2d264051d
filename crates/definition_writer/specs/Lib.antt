-- The bytes that are written.
pub mod Written
