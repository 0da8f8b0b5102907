pub mod CreateReasons
pub mod CreateTests
pub mod AlterReasons
pub mod Schemas
pub mod IsTable
pub mod Limits
pub mod Outcomes
