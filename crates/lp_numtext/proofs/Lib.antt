mod PowerSteps
pub mod PieceSteps
pub mod DigitSteps
pub mod ReadSteps
pub mod SizeSteps
pub mod BoundSteps
pub mod ValueSteps
pub mod WriteSteps
pub mod WideSteps
pub mod WideWriteSteps
