pub mod TextSteps
pub mod WideWords
pub mod NamesKnown
pub mod PartsPlaced
pub mod ReadBack
pub mod Wider
