pub mod CodeLaws
pub mod EachLaws
pub mod OptionLaws
pub mod SchemaLaws
pub mod ColumnsRead
