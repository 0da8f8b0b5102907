pub mod Pairs
pub mod Saying
pub mod Leaving
pub mod Entering
pub mod Tops
