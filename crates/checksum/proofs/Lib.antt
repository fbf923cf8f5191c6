pub mod TableLaws
pub mod XorLaws
pub mod CrcTable
pub mod CrcLaws
pub mod FoldLaws
pub mod RingLaws
