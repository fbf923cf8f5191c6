pub mod Area
pub mod Master
