-- Laws that other crates' proofs may cite.
pub mod PlacedLaws
pub mod Placing
pub mod Keeping
pub mod Moving
pub mod KindLaws
pub mod Seeing
pub mod Loop
