pub mod Parts
pub mod Boarding
