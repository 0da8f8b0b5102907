pub mod RowViews
pub mod Answering
pub mod OwnColumns
pub mod OwnRows
pub mod KeyPicks
pub mod Walking
pub mod Passing
pub mod Keeping
