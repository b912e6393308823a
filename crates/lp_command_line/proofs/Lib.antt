-- Lemmas.
pub mod OptionLemmas
pub mod Asking
pub mod Faultless
pub mod Noticed
pub mod OptionFaults
pub mod PlainFaults
