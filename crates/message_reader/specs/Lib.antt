-- What the readers that call each other ensure of one turn.
pub mod Turning
