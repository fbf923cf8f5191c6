pub mod Inputs
pub mod Border
pub mod Exact
pub mod Defaults
