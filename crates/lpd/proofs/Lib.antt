-- Lemmas.
pub mod Wanted
