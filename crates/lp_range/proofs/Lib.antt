pub mod Seated
pub mod Ranged
