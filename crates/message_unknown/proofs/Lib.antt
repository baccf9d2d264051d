-- Laws that other crates' proofs may cite.
pub mod AlongLaws
pub mod Steps
