pub mod Text
pub mod NarrowText
pub mod WideText
pub mod TextWritten
pub mod TextRead
