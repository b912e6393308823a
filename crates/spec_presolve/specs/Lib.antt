pub mod Choose
pub mod Reduce
pub mod Carry
pub mod Presolved
pub mod FreeRows
