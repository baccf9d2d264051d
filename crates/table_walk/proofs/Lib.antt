-- a record at a place of a table, by the decoder
mod Decoding
-- the walk
mod Walking
