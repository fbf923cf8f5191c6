pub mod Premises
pub mod OldReaders
pub mod RightReads
