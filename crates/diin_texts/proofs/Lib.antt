pub mod DiinTextLaws
pub mod ValueLaws
pub mod DiinTextExamples
