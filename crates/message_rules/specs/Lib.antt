-- A message and its lawful reading
pub mod Scan
pub mod Rows
pub mod RowBytes
-- Refusals of a message
pub mod Verdict
pub mod Promise
-- The cases of 01 that are marked, and those that 02 names
pub mod Starred
