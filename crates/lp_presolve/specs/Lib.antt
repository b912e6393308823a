pub mod Tries
pub mod Kept
pub mod Tells
pub mod Sums
pub mod Clash
