-- The faults of one declaration.
pub mod Checks
