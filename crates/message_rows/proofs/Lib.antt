-- Laws that other crates' proofs may cite.
pub mod Stores
pub mod Trees
