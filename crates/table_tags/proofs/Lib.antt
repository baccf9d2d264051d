-- the search by record lengths
pub mod Searching
-- a tag that stands twice
mod Again
-- the marks of tags
pub mod Marking
-- what the code says it found
pub mod FoundLaws
