pub mod Marker
pub mod Custom
