pub mod Little
pub mod Laws
