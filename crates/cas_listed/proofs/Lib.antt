pub mod Empty
pub mod Holding
pub mod Behind
