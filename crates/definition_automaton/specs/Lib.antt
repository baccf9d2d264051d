-- The numbers of the automaton by name; what a token does, the state after, the declaration at hand.
pub mod Names
pub mod Acts
pub mod States
pub mod Noting
pub mod Codes
