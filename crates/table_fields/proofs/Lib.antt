-- one record
mod Single
-- loops over records
mod Loops
