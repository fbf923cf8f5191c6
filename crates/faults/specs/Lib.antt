pub mod Caller
pub mod TextBytes
pub mod Marks
