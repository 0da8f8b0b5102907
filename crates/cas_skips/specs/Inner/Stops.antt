-- How far bytes were taken (own).
use Rattle.std.specs.Prelude.{◌≡◌, ℕ, ◌+◌, ◌<◌, ◌≤◌, ◌^◌, List, length, drop, Option, None, Some, Ok, Err}
use Rattle.cas_types.specs.Limits.{IsNarrow}
use Rattle.cas_types.specs.declared.schema.Column.{Column}
use Rattle.cas_bounds.specs.ClusteringOrder.{clustering_order}
use Rattle.cas_bounds.specs.declared.order.Ordered.{Ordered}
use Rattle.cas_codec.specs.Exact.{AreBytes, Begins}
use Rattle.cas_codec.specs.Reading.{Left}
use Rattle.cas_codec.specs.declared.fault.ReadFault.{ReadFault}
use Rattle.cas_streams.specs.declared.fragment.Fragment.{Fragment}
use Rattle.cas_fragments.specs.Reading.{fragment_at}
use Rattle.cas_skips.specs.Told.{told}
use Rattle.cas_skips.specs.Marks.{mark_of}
use Rattle.cas_skips.specs.declared.fragments.Passed.{Passed}
use Rattle.cas_skips.specs.Inner.Passing.{mark_at}

-- what is left of bytes of which so many were taken
abbrev pub left_from : List ℕ → ℕ → ℕ → Left
left_from bytes place taken = record { bytes = drop taken bytes; at = place + taken }

-- bytes of a table that may be read on
pub record IsKept (order : List Ordered) (columns : List Column) (bytes : List ℕ) (place taken : ℕ) : Type 0 where
  pub ordered : order ≡ clustering_order columns
  pub narrow : IsNarrow columns
  pub within : place + length bytes < 2 ^ 64
  pub some : taken ≤ length bytes

-- something stands between them
abbrev pub IsFurther : Left → Left → Type 0
IsFurther old new = (text : List ℕ) × Begins text old new

-- the fragment with which the bytes begin, and how many are left behind it; none where they begin with none
abbrev pub IsFirst : List Ordered → List Column → Left → Option (Fragment × ℕ) → Type 0
IsFirst order columns left None = (f : ReadFault) × (fragment_at order columns left ≡ Err f)
IsFirst order columns left (Some p) = (new : Left) × (fragment_at order columns left ≡ Ok (p.0, new)) × (p.1 ≡ length new.bytes) × AreBytes left.bytes

-- what is told of the fragment with which the bytes begin, whose place has these values; none where they begin with none
abbrev pub PassesOne : List Ordered → List Column → Left → Left → List (List ℕ) → Option Passed → Type 0
PassesOne order columns old new values None = (f : ReadFault) × (told mark_of (fragment_at order columns old) ≡ Err f)
PassesOne order columns old new values (Some p) = told mark_of (fragment_at order columns old) ≡ Ok (mark_at p.end p.opens values, new)
