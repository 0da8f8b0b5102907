-- Where the bytes of a byte string stand.
use Rattle.std.specs.Prelude.{ℕ, List}
use Rattle.cas_types.specs.declared.bytes.Kept.{Kept}
use Rattle.cas_types.specs.declared.bytes.Kept.TheVariants.{Here, Apart}

-- the bytes that are kept, in place or apart
abbrev pub kept_bytes : Kept → List ℕ
kept_bytes (Here short) = short
kept_bytes (Apart bytes) = bytes.items
