-- Lemmas.
pub mod BasisPrints
pub mod ExactPrints
pub mod Generating
pub mod SideLines
pub mod Finding
pub mod Ranging
pub mod Heard
pub mod LeadingOn
pub mod CheckLines
pub mod WideLines
pub mod BasisLines
pub mod SpelledKept
pub mod BasisKept
pub mod Saying
