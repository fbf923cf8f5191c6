pub mod TestLaws
pub mod WindowLaws
