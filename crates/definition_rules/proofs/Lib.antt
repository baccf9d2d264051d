-- T2, T3
pub mod FormComplete
pub mod FormSound
pub mod FormUnique
pub mod Stuck
pub mod Spots
-- T4, T5, T7
pub mod TableLaws
pub mod FirstFault
-- the steps of number 10
pub mod FiniteLaws
-- laws of the scan and of runs, for code
pub mod ScanLaws
pub mod RunLaws
-- the index
pub mod Theorems
