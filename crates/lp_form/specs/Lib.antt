pub mod Count
pub mod Answer
pub mod Bounds
pub mod Fault
pub mod Coded
