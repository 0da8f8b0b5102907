pub mod Coming
pub mod There
