-- T1 and, over texts, T3
pub mod UniqueCut
pub mod Stuck
