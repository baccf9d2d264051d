-- depth and fuel
pub mod Depth
pub mod Fuel
-- T16: places
pub mod Places
-- T10: tokens
pub mod Spelling
pub mod CutLaws
pub mod TokenFaults
-- T18: rows
pub mod RowLaws
pub mod Spans
pub mod Nest
pub mod Rising
pub mod Indices
-- T9, T11 to T14, T17
pub mod Promises
pub mod Compiled
-- the index
pub mod Theorems
-- T20: the cases of 01 that are marked, and those that 02 names
pub mod Starred
