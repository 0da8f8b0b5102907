-- A row put together of what is said at its places (own).
use Rattle.std.specs.Prelude.{◌≡◌, ℕ, zero, suc, nat_lt, ◌==◌, ◌/◌, Bool, true, false, ◌&&◌, if◌then◌else◌}
use Rattle.std.specs.Prelude.{Option, None, Some, List, [], ◌∷◌, map, fold, length, take, drop}
use Rattle.std.specs.List.{list_all}
use denote.Ref.{Bor}
use Rattle.cas_bounds.specs.declared.map_key.End.TheVariants.{Row}
use Rattle.cas_bounds.specs.declared.map_key.MapKey.{MapKey}
use Rattle.cas_atoms.specs.declared.row.RowColumn.{RowColumn}
use Rattle.cas_streams.specs.Joined.{joined_fragment}
use Rattle.cas_streams.specs.declared.fragment.Fragment.{Fragment}
use Rattle.cas_partition.specs.Spots.{piece}
use Rattle.cas_partition.specs.Inner.Rows.{Said}
use Rattle.cas_partition.specs.declared.spot.Place.{Place}
use Rattle.cas_partition.specs.declared.spot.Content.{Content}

-- what is said at a place of the row, as a piece of it
abbrev pub said_in : Option MapKey → Place × Content → Fragment
said_in row e = piece row e.0.column e.0.path e.1

-- the same of an entry that is lent
abbrev pub lent_in : Option MapKey → Bor Place × Bor Content → Fragment
lent_in row e = piece row e.0.now.column e.0.now.path e.1.now

-- the same for a row that is there already, so that it doesn't matter where the piece stands
abbrev pub further : Option ℕ → Option (List ℕ) → Content → Fragment
further column path c = piece (Some (record { values = []; end = Row; order = [] })) column path c

-- all columns have lower numbers
abbrev pub are_below : List RowColumn → ℕ → Bool
are_below [] n = true
are_below (c ∷ cs) n = nat_lt c.column.number n && are_below cs n

-- a row has taken in the piece, or stayed
abbrev pub Takes : Bool → Fragment → Fragment → Fragment → Type 0
Takes true f g h = h ≡ joined_fragment f g
Takes false f g h = h ≡ f

-- pieces of one row put together, one after another
abbrev pub joined_pieces : List Fragment → Option Fragment
joined_pieces [] = None
joined_pieces (f ∷ fs) = Some (fold joined_fragment f fs)

-- two parts of them
abbrev pub joined_both : Option Fragment → Option Fragment → Option Fragment
joined_both None g = g
joined_both (Some f) None = Some f
joined_both (Some f) (Some g) = Some (joined_fragment f g)

-- many of them in halves, and those in halves again
unfoldable pub joined_in : ℕ → List Fragment → Option Fragment
joined_in zero fs = joined_pieces fs
joined_in (suc n) fs = if nat_lt (length fs) 16 then joined_pieces fs
    else joined_both (joined_in n (take (length fs / 2) fs)) (joined_in n (drop (length fs / 2) fs))

-- the path of a plain column, or none
abbrev pub is_short : Option (List ℕ) → Bool
is_short None = true
is_short (Some p) = length p == 0

-- no entry is an element of a collection
abbrev pub are_plain : Said → Bool
are_plain es = list_all (λ e. is_short e.0.path) es

-- the row of these entries, if there are any
abbrev pub fragment_of : Option MapKey → Said → Option Fragment
fragment_of row es = if are_plain es then joined_pieces (map (said_in row) es) else joined_in 64 (map (said_in row) es)
