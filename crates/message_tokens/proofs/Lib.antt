-- Laws that other crates' proofs may cite.
pub mod CutAt
pub mod Steps
pub mod Heads
pub mod Plain
pub mod Naturals
pub mod Eight
