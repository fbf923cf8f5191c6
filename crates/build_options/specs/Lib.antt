pub mod Options
pub mod Area
pub mod Inputs
