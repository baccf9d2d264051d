-- Laws that other crates' proofs may cite.
pub mod CellLaws
pub mod Views
pub mod StepLaws
