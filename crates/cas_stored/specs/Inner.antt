pub mod Either
pub mod Files
