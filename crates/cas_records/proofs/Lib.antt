pub mod BoundLaws
pub mod CellLaws
pub mod ColumnLaws
