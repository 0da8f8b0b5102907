pub mod Entries
pub mod Texts
pub mod TermValues
pub mod SortedLists
