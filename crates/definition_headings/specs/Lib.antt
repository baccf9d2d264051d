-- What a declaration's heading says.
pub mod Heads
