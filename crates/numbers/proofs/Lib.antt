-- Laws that other crates' proofs may cite.
pub mod Order
pub mod Bytes
pub mod Digits
pub mod Sizes
pub mod Ranges
pub mod Packing
