pub mod Begun
pub mod Ends
pub mod Fit
pub mod Formless
pub mod Stopped
pub mod Lines
pub mod Standing
pub mod Strategy
