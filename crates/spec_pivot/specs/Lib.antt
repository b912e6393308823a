pub mod Tableau
pub mod Simplex
pub mod Ratio
pub mod Dual
