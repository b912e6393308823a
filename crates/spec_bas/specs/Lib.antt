pub mod Cards
pub mod Steps
pub mod Fits
pub mod Spelled
pub mod Written
