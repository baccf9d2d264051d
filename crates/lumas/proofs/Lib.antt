-- Laws that the functions' proofs cite.
pub mod Numbers
pub mod Sizes
pub mod Hearing
pub mod Spans
