pub mod SelectAgree
pub mod StatementAgree
pub mod LineAgree
