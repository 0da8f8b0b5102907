-- Which fragments a block can hold.
-- Own format.
use Rattle.std.specs.Prelude.{List}
use Rattle.std.specs.List.{AllByRecursion}
use Rattle.cas_fragments.specs.Allowed.{HasSpelling, HaveRoom}
use Rattle.cas_fragments.specs.Blocks.{statics_in, behind_statics}
use Rattle.cas_streams.specs.declared.fragment.Fragment.{Fragment}
use Rattle.cas_streams.specs.declared.fragment.Fragment.TheVariants as fragment

-- a row or a marker whose numbers and lengths have room in their fields; the static row stands in no block
abbrev pub IsHeld : Fragment → Type 0
IsHeld (fragment.Static columns) = ⊥
IsHeld (fragment.Row r) = HasSpelling (fragment.Row r)
IsHeld (fragment.Marker cut d) = HasSpelling (fragment.Marker cut d)

-- a table file can hold the fragments: static columns that have room in their fields, if they are the first, and behind them what a block can hold
abbrev pub AreHeld : List Fragment → Type 0
AreHeld fs = HaveRoom (statics_in fs) × AllByRecursion IsHeld (behind_statics fs)
