pub mod Format
pub mod Fault
pub mod Needed
