-- Laws that the compiler's proof cites.
pub mod FaultLaws
