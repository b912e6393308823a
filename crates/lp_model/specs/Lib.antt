pub mod Indexed
pub mod Place
pub mod Answer
pub mod Named
