pub mod Status
pub mod Top
pub mod TrueLinks
