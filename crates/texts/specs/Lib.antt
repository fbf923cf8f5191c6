pub mod Extent
pub mod Text
