pub mod LayoutLaws
pub mod CompressionLaws
