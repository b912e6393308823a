pub mod Factors
pub mod Basis
pub mod Revised
pub mod Over
pub mod Same
