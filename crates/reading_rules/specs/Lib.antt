-- tokens and records
pub mod Token
pub mod Record
pub mod Value
-- what the rules of a reading ask of a table
pub mod Schema
-- the lawful reading
pub mod Count
pub mod Reading
-- the parser, as the rows of the decision table
pub mod Parse
