-- Laws of the checks, and of their answers.
pub mod CheckLaws
