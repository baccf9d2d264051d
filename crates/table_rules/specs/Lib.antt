-- the meaning of number 10
pub mod Endless
-- the meaning of number 20
pub mod Compilable
-- the rules that are proved to be just that
pub mod RecordRules
