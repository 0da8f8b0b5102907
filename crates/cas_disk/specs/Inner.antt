pub mod Past
pub mod PastLaws
pub mod PastDisk
pub mod Plans
pub mod Listed
pub mod Shown
