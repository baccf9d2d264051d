-- the search for a tag
pub mod Search
-- the keys of tags, and marks for those that were met
pub mod Keys
