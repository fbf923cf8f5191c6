pub mod Text
pub mod Property
pub mod Diin
pub mod Sound
pub mod Local
pub mod Options
