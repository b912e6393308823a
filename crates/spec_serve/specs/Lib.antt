pub mod Workers
pub mod Link
pub mod Lines
pub mod Links
