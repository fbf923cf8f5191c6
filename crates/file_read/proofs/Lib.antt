pub mod FillLaws
pub mod PieceLaws
