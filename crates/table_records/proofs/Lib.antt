-- laws that other crates cite
pub mod Laws
-- the numbers in a record
mod Fields
