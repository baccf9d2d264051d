-- What the decisions in a list ensure.
pub mod Lists
pub mod Quickly
