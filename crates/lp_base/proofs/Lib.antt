-- Lemmas.
pub mod Ahead
pub mod BlankParts
mod KeptLemmas
pub mod LastBytes
mod PieceLemmas
mod RunSteps
mod LineSoFar
pub mod TakingLemmas
pub mod Logs
pub mod Remembered
