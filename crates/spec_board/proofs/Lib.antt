pub mod Digits
pub mod PackedPlaces
pub mod PackedBases
pub mod Back
pub mod SharedPlaces
pub mod Newest
