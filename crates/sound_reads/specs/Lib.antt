pub mod Place
pub mod Steps
pub mod Positions
pub mod Lent
pub mod Fill
