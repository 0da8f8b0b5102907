pub mod KeyTerms
pub mod Keys
pub mod KeyLaws
pub mod Inner
