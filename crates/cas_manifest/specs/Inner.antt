pub mod Making
pub mod Loading
