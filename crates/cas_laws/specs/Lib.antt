pub mod Given
pub mod Inside
pub mod Above
pub mod Laws
