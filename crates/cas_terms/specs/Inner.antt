pub mod SpelledBytes
pub mod Beside
