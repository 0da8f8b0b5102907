-- What the book has of the table files. Own.
use Rattle.std.specs.Prelude.{◌≡◌, ℕ, ◌-◌, false, Option, Some, None}
use Rattle.std.specs.Ordering.{nat_cmp}
use Rattle.std.specs.BTreeMap.{get}
use Rattle.cas_refs.specs.declared.Count.{Count}
use Rattle.cas_refs.specs.declared.RefBook.{RefBook}

-- the table's count, where it is in the book
abbrev pub at : RefBook → ℕ → Option Count
at b k = get nat_cmp b.counts k

-- it is in the book, and in a view
abbrev pub Live : Option Count → Type 0
Live None = ⊥
Live (Some c) = c.retired ≡ false

-- how many pins of it are out; of a table that isn't in the book none
abbrev pub pins_of : Option Count → ℕ
pins_of None = 0
pins_of (Some c) = c.pins

-- with one pin less, where one is out
abbrev pub one_less : Option Count → Option Count
one_less None = None
one_less (Some c) = Some (record { pins = c.pins - 1; retired = c.retired })
