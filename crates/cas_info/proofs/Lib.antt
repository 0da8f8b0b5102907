pub mod InfoLaws
pub mod OverlapLaws
