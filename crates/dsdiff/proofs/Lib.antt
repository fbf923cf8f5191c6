pub mod MarkerLaws
pub mod TableLaws
pub mod Zeros
pub mod WholeLaws
