pub mod Cutting
pub mod Reading
pub mod Faults
pub mod Heads
pub mod Origins
pub mod Laws
pub mod Inner
