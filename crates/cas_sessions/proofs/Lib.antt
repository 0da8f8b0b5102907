mod Telling
mod Idling
pub mod Answering
mod Showing
mod Performing
mod Shrinking
mod FlushShard
mod FlushAll
pub mod FlushFull
mod FullNoMore
mod FlushMaking
mod FlushSound
mod Statuses
mod Verdicts
pub mod StandWhole
