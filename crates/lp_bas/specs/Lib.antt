pub mod FileRead
pub mod Feeds
pub mod Limits
pub mod Listed
pub mod Single
pub mod Steps
pub mod Words
