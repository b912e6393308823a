pub mod Gives
mod Scaled
mod Walks
