pub mod Used
pub mod UsingLemmas
pub mod StaticNames
pub mod PlainInserts
