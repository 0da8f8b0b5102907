pub use Rattle.cas_keys.specs.KeyTerms
pub use Rattle.cas_keys.specs.Keys
pub mod Where
pub mod Slices
pub mod WhereLaws
pub mod Inner
