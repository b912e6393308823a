pub mod Huge
pub mod Near
pub mod Seen
pub mod Separates
pub mod Within
pub mod Reading
pub mod Writing
