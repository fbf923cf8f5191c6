pub mod WalkLaws
pub mod FillLaws
pub mod RealLaws
