pub mod Row
pub mod Scalars
pub mod Lengths
pub mod Durations
