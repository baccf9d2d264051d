pub mod Frame
pub mod Lent
pub mod Lines
