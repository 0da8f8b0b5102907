pub mod ChangeReading
