pub mod Sound
pub mod Steps
pub mod Verdict
pub mod Build
pub mod Reads
pub mod Dates
