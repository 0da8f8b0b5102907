pub mod Deletions
pub mod Lives
pub mod Cells
pub mod Laws
