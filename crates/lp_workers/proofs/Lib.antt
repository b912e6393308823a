-- Lemmas.
pub mod Calls
pub mod Gathering
pub mod Together
pub mod Founded
