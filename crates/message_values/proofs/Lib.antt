-- Laws that other crates' proofs may cite.
pub mod Parts
