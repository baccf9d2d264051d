-- laws of counting, of balanced braces, and of a table that a reading can rest on
pub mod CountLaws
pub mod Balance
pub mod Rules
-- what each number of a value means
pub mod Values
-- what is read is lawful, what is lawful is read, one reading
pub mod Inverse
pub mod Complete
pub mod Sound
pub mod Readings
