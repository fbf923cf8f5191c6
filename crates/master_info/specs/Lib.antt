pub mod Pick
pub mod Diin
