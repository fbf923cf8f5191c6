pub mod DsdLaws
pub mod RealLaws
