pub mod OrderedLists
pub mod GreatestProofs
pub mod JoinProofs
pub mod ShownProofs
pub mod AliveProofs
pub mod AboveProofs
pub mod SliceProofs
