-- Laws that the functions' proofs cite.
pub mod Moves
pub mod Heads
pub mod Lent
pub mod Lines
pub mod Examples
