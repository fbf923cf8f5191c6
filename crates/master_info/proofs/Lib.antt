pub mod DiinLaws
pub mod ReadLaws
pub mod DiinSizeLaws
