pub use Rattle.cas_keys.specs.Inner.Sources
