pub mod FilledLaws
pub mod KnownLaws
pub mod RealLaws
pub mod FaithfulLaws
pub mod OwnLaws
pub mod OldReadersProof
pub mod RightReadsProof
