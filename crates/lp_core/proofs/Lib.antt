-- Lemmas.
pub mod Acts
pub mod StageSteps
pub mod Words
pub mod WorldActs
pub mod Opening
pub mod Following
pub mod FormedWords
