pub mod OneBlockMore
pub mod Adding
