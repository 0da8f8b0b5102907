pub mod LineLemmas
pub mod LineReading
pub mod OneLine
pub mod Feeds
pub mod FlushLines
pub mod StatusLines
pub mod Ascii
