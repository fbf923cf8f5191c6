pub mod Measure
pub mod Fill
