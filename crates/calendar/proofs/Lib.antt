-- Laws that other crates' proofs may cite.
pub mod Laws
-- February
pub mod February
