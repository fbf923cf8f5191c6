pub mod FrameLaws
pub mod StartLaws
pub mod SaturateLaws
pub mod LowLaws
pub mod UnitLaws
