pub mod MarkerLaws
pub mod CustomLaws
pub mod AllLaws
