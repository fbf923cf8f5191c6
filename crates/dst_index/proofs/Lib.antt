pub mod IndexLaws
pub mod DstExamples
