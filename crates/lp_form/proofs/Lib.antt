pub mod Counted
pub mod MadeForms
mod WordLists
