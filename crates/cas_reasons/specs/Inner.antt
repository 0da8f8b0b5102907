pub use Rattle.cas_mentions.specs.Inner.Borrowed
pub mod PlainInserts
