pub mod TableReading
