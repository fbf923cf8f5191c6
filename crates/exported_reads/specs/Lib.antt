pub mod Callers
pub mod Refusals
