pub mod Limits
pub mod Property
pub mod Info
