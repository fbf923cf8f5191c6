pub mod AcceptedLaws
pub mod VerdictExamples
pub mod DiinBelowLaws
