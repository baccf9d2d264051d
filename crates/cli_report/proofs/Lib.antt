pub mod ShownLaws
pub mod Worked
