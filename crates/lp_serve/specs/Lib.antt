pub mod Service
pub mod Serving
pub mod Desks
