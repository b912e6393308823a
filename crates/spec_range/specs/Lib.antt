pub mod Span
pub mod Rule
