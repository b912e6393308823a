pub mod CommandLine
pub mod Spelled
pub mod Fits
pub mod TextLimits
