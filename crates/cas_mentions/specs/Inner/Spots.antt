-- What a statement changes, as spots that can be sorted, so that what is changed twice stands side by side.
use Rattle.std.specs.Prelude.{ℕ, ℤ, pos, Bool, not, ◌&&◌, List, [], Option, None, if◌then◌else◌}
use Rattle.std.specs.Option.{option_copied, option_cmp}
use Rattle.std.specs.Ordering.{nat_cmp, int_cmp, on, then_cmp}
use Rattle.std.specs.Str.{bytes_eq}
use Rattle.std.specs.declared.cmp.Ordering.{Ordering}
use Rattle.cas_types.specs.Values.{bytes_cmp}
use Rattle.cas_types.specs.declared.schema.Column.{Column}
use Rattle.cql_parse.specs.declared.term.Constant.{Constant}
use Rattle.cql_parse.specs.declared.term.Constant.TheVariants as constant
use Rattle.cas_mentions.specs.ColumnFaults.{are_other_entries, entry_key, names_map}
use Rattle.cas_mentions.specs.Mentions.{Change}
use Rattle.cas_mentions.specs.declared.twice.Spot.{Spot}

-- the name of a column, and the key where one entry of a map is changed
abbrev pub Changed : Type 0
Changed = List ℕ × Option Constant

-- what a spot of the code stands for
abbrev pub in_spot : Spot → Changed
in_spot s = (s.name.now, option_copied s.entry)

-- what a change of a column of the table changes
abbrev pub changed_in : List Column → List ℕ × Change → Changed
changed_in cs p = (p.0, if names_map cs p.0 then entry_key p.1 else None)

-- one column; and not two entries of it
abbrev pub same_changed : Changed → Changed → Bool
same_changed a b = bytes_eq a.0 b.0 && not (are_other_entries a.1 b.1)

-- the kinds of constants, one after another
abbrev pub constant_rank : Constant → ℕ
constant_rank (constant.Text t) = 0
constant_rank (constant.Number n) = 1
constant_rank (constant.Blob b) = 2
constant_rank (constant.Uuid u) = 3
constant_rank (constant.Boolean b) = 4

-- the bytes of a constant that has some
abbrev pub bytes_in : Constant → List ℕ
bytes_in (constant.Text t) = t
bytes_in (constant.Number n) = []
bytes_in (constant.Blob b) = b
bytes_in (constant.Uuid u) = u
bytes_in (constant.Boolean b) = []

-- the number of a constant that is one; false is 0, and true 1
abbrev pub number_in : Constant → ℤ
number_in (constant.Text t) = pos 0
number_in (constant.Number n) = n
number_in (constant.Blob b) = pos 0
number_in (constant.Uuid u) = pos 0
number_in (constant.Boolean b) = if b then pos 1 else pos 0

-- constants by kind, then by their bytes, then by their number
abbrev pub constant_cmp : Constant → Constant → Ordering
constant_cmp = then_cmp (on constant_rank nat_cmp) (then_cmp (on bytes_in bytes_cmp) (on number_in int_cmp))

-- by name, then columns as a whole before entries, and entries by their keys
abbrev pub changed_cmp : Changed → Changed → Ordering
changed_cmp = then_cmp (on (λ a. a.0) bytes_cmp) (on (λ a. a.1) (option_cmp constant_cmp))

-- spots by what they stand for
abbrev pub spot_cmp : Spot → Spot → Ordering
spot_cmp = on in_spot changed_cmp

-- two spots are of one column, and not of two entries of it
abbrev pub same_spot : Spot → Spot → Bool
same_spot = on in_spot same_changed
