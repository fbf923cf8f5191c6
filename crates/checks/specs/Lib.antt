pub mod InputVerdict
