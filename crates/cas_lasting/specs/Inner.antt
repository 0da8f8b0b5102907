pub mod Sound
pub mod Definitions
pub mod Going
pub mod Printed
