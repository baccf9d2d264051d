-- The limits of 01, decimal numbers, ranges, and numbers in bytes.
pub mod Answers
pub mod Decimal
pub mod Limits
pub mod LittleEndian
pub mod Packed
pub mod Range
pub mod Rules
