pub mod WrittenLaws
pub mod ListLaws
