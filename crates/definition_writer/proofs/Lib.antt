-- Laws that other crates' proofs may cite.
pub mod WriteLaws
pub mod Widths
pub mod ReadBack
pub mod Parents
