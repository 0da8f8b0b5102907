pub mod EffectLemmas
pub mod ReasonOrder
pub mod RowLemmas
pub mod FitChanges
pub mod PlainLemmas
pub mod FitWrites
pub mod Bound
pub mod ChangeNames
