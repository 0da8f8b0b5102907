pub mod Reading
pub mod TermReading
pub mod Adding
