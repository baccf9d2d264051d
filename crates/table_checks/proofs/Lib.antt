-- a parent's number against the parent
pub mod Parents
-- loops over records
mod Any
-- number 10: bodies as they are gathered, sweeps, and where none is needed
mod Bodies
mod Sweeping
mod Structs
