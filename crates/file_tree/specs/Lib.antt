pub mod Parts
pub mod Sound
pub mod Sides
pub mod Steps
pub mod File
pub mod Sized
