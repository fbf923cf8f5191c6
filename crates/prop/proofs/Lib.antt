pub mod ChnlLaws
pub mod PropertyLaws
pub mod ReadLaws
pub mod PropertyExamples
