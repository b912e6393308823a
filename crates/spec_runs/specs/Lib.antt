pub mod Accepted
pub mod Cold
pub mod Steps
pub mod Based
pub mod Warm
pub mod Solve
