pub mod Passes
mod Top
