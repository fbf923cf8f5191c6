pub mod PlaceLaws
pub mod PositionsLaws
pub mod SameLaws
pub mod LentLaws
pub mod PartLaws
