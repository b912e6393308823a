pub mod Certificate
pub mod Checks
pub mod Run
pub mod Raw
pub mod Settle
