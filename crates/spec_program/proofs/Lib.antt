-- Lemmas.
pub mod NumberLimits
pub mod Addresses
