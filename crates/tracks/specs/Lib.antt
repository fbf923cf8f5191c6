pub mod Track
pub mod Order
pub mod Steps
