pub mod TableAgree
pub mod TypeAgree
pub mod DefineAgree
pub mod WordAgree
