-- Laws that other crates' proofs may cite.
pub mod LiveLaws
pub mod FaultLaws
-- steps of the cursor
pub mod Steps
