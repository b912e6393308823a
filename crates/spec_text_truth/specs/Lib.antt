pub mod Certified
pub mod SpelledBasis
pub mod AcceptedLines
pub mod SaidRange
pub mod SaidSides
pub mod TrueOutput
pub mod FalseOutputs
