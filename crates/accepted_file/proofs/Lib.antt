pub mod SizeLaws
pub mod AcceptedLaws
pub mod IndexLaws
