pub mod SizeLaws
pub mod WriteLaws
