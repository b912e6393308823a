pub mod Words
pub mod Listening
pub mod Notices
pub mod WordFaults
