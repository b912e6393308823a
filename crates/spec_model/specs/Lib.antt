pub mod Kept
pub mod Model
pub mod Truth
