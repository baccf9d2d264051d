-- What the readers of a message ensure, and how their loops go.
pub mod Ends
pub mod Going
pub mod AtToken
