pub mod Program
pub mod Pass
