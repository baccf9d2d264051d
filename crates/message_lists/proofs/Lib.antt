-- laws that the functions' proofs cite
mod Parts
mod Quicks
