pub mod RowFaultLaws
