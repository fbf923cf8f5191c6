pub mod Opened
pub mod CallLaws
pub mod InstanceLaws
pub mod Worked
pub mod WorkedDsd
