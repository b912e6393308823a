pub mod Steps
pub mod Phases
pub mod Cold
pub mod Rows
pub mod Warm
