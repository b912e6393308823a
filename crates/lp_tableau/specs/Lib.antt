pub mod Answer
pub mod Grid
pub mod Parts
pub mod Twins
pub mod Begun
pub mod Based
