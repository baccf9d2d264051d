-- The walk over a table's records.
pub mod Walked
