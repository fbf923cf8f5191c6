pub mod ExtentLaws
pub mod TextLaws
pub mod TextExamples
