-- The sweeps that find finite values.
pub mod Sweeps
