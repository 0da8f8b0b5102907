pub mod Coming
pub mod InOrder
pub mod OwnRow
