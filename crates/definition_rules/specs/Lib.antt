-- The definition's text
pub mod Words
pub mod Scan
pub mod Cut
pub mod Forms
pub mod Declarations
pub mod Spots
-- The compiled table
pub mod Records
pub mod Table
-- Refusals of a definition
pub mod Finite
pub mod Faults
pub mod Compile
pub mod Stuck
