pub mod ProgramLaws
pub mod SourceLaws
pub mod ProgramExamples
pub mod InsideLaws
pub mod SizeLaws
