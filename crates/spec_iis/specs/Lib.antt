pub mod Sides
pub mod Only
pub mod Irreducible
pub mod Rule
pub mod Found
