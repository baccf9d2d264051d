-- Laws that other crates' proofs may cite.
pub mod GoingLaws
pub mod AtToken
