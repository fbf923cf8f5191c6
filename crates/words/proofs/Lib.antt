pub mod BorderLaws
pub mod DefaultLaws
