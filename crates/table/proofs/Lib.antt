-- the compiler's checks over all records, and the rules over the bytes
pub mod Laws
