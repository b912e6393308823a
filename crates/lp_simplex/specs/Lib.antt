pub mod PrimalAnswer
pub mod Ratio
pub mod DualAnswer
pub mod Starts
