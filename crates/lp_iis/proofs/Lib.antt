pub mod OneMore
pub mod Tried
pub mod Placed
pub mod SearchSteps
