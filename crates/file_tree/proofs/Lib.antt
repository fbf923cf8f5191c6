pub mod SideLaws
pub mod SoundLaws
pub mod FileLaws
