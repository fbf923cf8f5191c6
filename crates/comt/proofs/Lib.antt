pub mod CommentLaws
pub mod ValueLaws
pub mod CommentExamples
