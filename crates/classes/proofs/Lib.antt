-- Laws that other crates' proofs may cite.
pub mod Bools
pub mod Segment
pub mod Rows
pub mod Stores
pub mod Chains
