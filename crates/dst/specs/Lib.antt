pub mod Frame
pub mod Unit
pub mod Head
pub mod Sized
pub mod Start
