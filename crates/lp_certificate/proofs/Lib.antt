pub mod Blanks
pub mod Inside
pub mod PartLines
pub mod ReadNumbers
pub mod PartPlaces
mod Marking
