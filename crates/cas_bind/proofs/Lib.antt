pub mod RowLemmas
pub mod TableLemmas
pub mod KeptTables
pub mod Kept
pub mod FitReads
pub mod FitBound
