pub mod Sounding
pub mod Filing
pub mod Behind
mod Dropped
pub mod Frontiers
pub mod Files
pub mod Parts
pub mod Remembering
pub mod Numbered
pub mod Explaining
pub mod Moving
pub mod Lasting
pub mod Crashing
pub mod Entering
pub mod Tables
pub mod Serving
mod Alone
pub mod Listing
pub mod Going
pub mod Next
mod Changed
pub mod Filled
pub mod FlushSteps
pub mod FlushExplains
pub mod FlushFiles
pub mod TooMuch
mod NothingMuch
mod LittleMuch
pub mod FlushChange
