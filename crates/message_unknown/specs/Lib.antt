-- What passing over unknown parts ensures.
pub mod Along
pub mod Passing
