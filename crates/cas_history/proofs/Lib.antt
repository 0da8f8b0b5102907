pub mod Parts
pub mod Moves
pub mod LogLists
pub mod Lists
pub mod Rising
pub mod Shares
pub mod Once
pub mod Orders
