pub mod Instance
pub mod WorkedReads
pub mod WorkedDsd
