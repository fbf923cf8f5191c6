pub mod Layout
pub mod Start
pub mod Compression
