pub mod Filling
pub mod Within
pub mod ToldLaws
pub mod LoadLaws
pub mod ContentsLoad
pub mod PartitionsFound
