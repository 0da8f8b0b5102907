pub mod Allowing
pub mod Fitted
pub mod Silent
pub mod Holding
pub mod Reaching
pub mod Writing
pub mod Counting
