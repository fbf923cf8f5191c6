pub mod WithinLaws
pub mod NumbersProof
