-- The spots of a slice, as two ranges of the keys: the static row, and the rows between two cuts (own).
use Rattle.std.specs.Prelude.{true, not, ◌&&◌, None, Some, List, [], filter}
use Rattle.std.specs.Ordering.{is_le}
use Rattle.cas_bounds.specs.declared.cuts.Cut.{Cut}
use Rattle.cas_bounds.specs.declared.map_key.End.TheVariants.{Before}
use Rattle.cas_bounds.specs.declared.map_key.MapKey.{MapKey}
use Rattle.cas_streams.specs.declared.fragment.Fragment.{Fragment}
use Rattle.cas_partition.specs.Ranges.{key_of}
use Rattle.cas_partition.specs.Spots.{spot_cmp, said}
use Rattle.cas_partition.specs.declared.spot.Spot.{Spot}
use Rattle.cas_partition.specs.declared.spot.Content.{Content}

-- what is said at the spot of an entry
abbrev pub piece_of : Spot × Content → Fragment
piece_of e = said e.0 e.1

-- the row of that key itself
abbrev pub spot_at : MapKey → Spot
spot_at k = record { row = Some k; column = None; path = None }

-- a key below all rows
abbrev pub below_rows : MapKey
below_rows = record { values = []; end = Before; order = [] }

-- the entries below a spot, and those between two
abbrev pub spots_below : Spot → List (Spot × Content) → List (Spot × Content)
spots_below first es = filter (λ e. true && not (is_le (spot_cmp first e.0))) es

-- those from one spot on, before another
abbrev pub spots_between : Spot → Spot → List (Spot × Content) → List (Spot × Content)
spots_between low high es = filter (λ e. is_le (spot_cmp low e.0) && not (is_le (spot_cmp high e.0))) es

-- those of the static row
abbrev pub statics_of : List (Spot × Content) → List (Spot × Content)
statics_of es = spots_below (spot_at below_rows) es

-- those of rows between two cuts
abbrev pub rows_between : Cut → Cut → List (Spot × Content) → List (Spot × Content)
rows_between lo hi es = spots_between (spot_at (key_of lo)) (spot_at (key_of hi)) es
