-- Rows of bytes, and the classes of bytes of both languages.
pub mod Lists
pub mod Bytes
