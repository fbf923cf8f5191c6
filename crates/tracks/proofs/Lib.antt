pub mod RowLaws
pub mod TrackLaws
pub mod OrderLaws
