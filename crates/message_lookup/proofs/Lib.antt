-- steps of the code
mod Bools
mod Steps
mod Judging
-- laws that other crates cite
pub mod Laws
pub mod Marked
pub mod IntLists
