pub mod RowLaws
pub mod LengthLaws
