pub mod NumberLaws
pub mod CallersProof
pub mod RefusalsProof
