pub mod Marker
pub mod Table
