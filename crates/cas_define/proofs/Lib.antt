pub mod Reasoning
pub mod Tables
