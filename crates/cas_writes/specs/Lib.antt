pub mod Changes
pub mod ChangeMeaning
pub mod ChangeLaws
pub mod Inner
