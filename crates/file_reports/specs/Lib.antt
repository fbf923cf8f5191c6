pub mod Values
pub mod Recording
