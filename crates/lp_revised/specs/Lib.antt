pub mod Answer
pub mod Moved
pub mod Runs
pub mod Selecting
pub mod State
pub mod FactorAnswer
pub mod Eta
pub mod Chosen
