-- A record's key.
pub mod Keys
