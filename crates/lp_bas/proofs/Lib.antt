pub mod ChosenNumbers
pub mod Marked
pub mod Readings
pub mod Added
