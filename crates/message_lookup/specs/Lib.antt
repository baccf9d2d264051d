pub mod Questions
pub mod Seen
pub mod IntList
