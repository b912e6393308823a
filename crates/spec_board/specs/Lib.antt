pub mod Words
pub mod Reads
pub mod Places
pub mod Orders
pub mod Newest
