pub mod Date
pub mod Order
pub mod Window
pub mod Meeting
