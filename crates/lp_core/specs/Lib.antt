pub mod Stages
pub mod Looks
pub mod Core
