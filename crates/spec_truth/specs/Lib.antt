pub mod ModelThen
pub mod TrueAnswer
pub mod LoadedFrom
pub mod Agree
