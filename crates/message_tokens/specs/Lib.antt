-- What a cursor over a message's bytes reads.
pub mod Cursor
pub mod Head
pub mod Digits
pub mod Scanned
pub mod Turn
