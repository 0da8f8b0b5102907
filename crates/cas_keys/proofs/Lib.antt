pub mod KeyLemmas
pub mod KeysBack
