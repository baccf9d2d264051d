-- The compiler's checks of records alone, and what the check of a table says.
pub mod Checks
