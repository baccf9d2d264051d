pub mod Live
pub mod Lexed
pub mod First
