-- The atoms of a mutation: what each effect of a statement writes and deletes at its timestamp.
-- CQL documentation, "Data manipulation: INSERT / UPDATE / DELETE, USING TIMESTAMP, USING TTL" and "Data types: collections"; the paths of lists are own.
use Rattle.std.specs.Prelude.{ℕ, ℤ, pos, ◌==◌, ◌+◌, ◌-◌, ◌+ℤ◌, ◌-ℤ◌, List, [], ◌∷◌, ◌++◌, map, Option, None, Some, is_none, unwrap_or, if◌then◌else◌}
use Rattle.std.specs.List.{flat_map, enumerate_from}
use Rattle.std.specs.Int.{w64, to_be_bytes}
use Rattle.std.specs.Ordering.{is_lt}
use Rattle.cas_cell.specs.declared.cell.Cell.{Cell}
use Rattle.cas_cell.specs.declared.cell.Cell.TheVariants as cell
use Rattle.cas_cell.specs.declared.deletion.Deletion.{Deletion}
use Rattle.cas_cell.specs.declared.liveness.Liveness.{Liveness}
use Rattle.cas_cell.specs.declared.liveness.Liveness.TheVariants as live
use Rattle.cas_bounds.specs.Cuts.{cut_cmp}
use Rattle.cas_bounds.specs.declared.cuts.Clustering.{Clustering}
use Rattle.cas_atoms.specs.declared.atom.ColumnRef.{ColumnRef}
use Rattle.cas_atoms.specs.declared.atom.Atom.{Atom}
use Rattle.cas_atoms.specs.declared.atom.Atom.TheVariants as atom
use Rattle.cas_atoms.specs.declared.atom.Mutation.{Mutation}
use Rattle.cas_effects.specs.declared.atoms.TheConstants.{LIST_MIDDLE}
use Rattle.cas_effects.specs.declared.stamped.Stamp.{Stamp}
use Rattle.cas_effects.specs.declared.effect.BoundWrite.{BoundWrite}
use Rattle.cas_effects.specs.declared.effect.Effect.{Effect}
use Rattle.cas_effects.specs.declared.effect.Effect.TheVariants as effect
use Rattle.cas_effects.specs.declared.effect.Elements.{Elements}
use Rattle.cas_effects.specs.declared.effect.Elements.TheVariants as elements

-- what an INSERT leaves of the row itself; with a TTL it expires so many seconds after the moment
abbrev pub live_of : Stamp → Liveness
live_of s = if s.ttl == 0 then live.Plain s.at else live.Expiring s.at (s.moment +ℤ pos s.ttl) s.ttl

-- a value, which with a TTL expires so many seconds after the moment; null is a tombstone, which doesn't expire
abbrev pub cell_of : Stamp → Option (List ℕ) → Cell
cell_of s None = cell.Tombstone s.at s.moment
cell_of s (Some v) = if s.ttl == 0 then cell.Plain s.at v else cell.Expiring s.at (s.moment +ℤ pos s.ttl) s.ttl v

-- a DELETE covers what was written at its timestamp or before
abbrev pub deletion_of : Stamp → Deletion
deletion_of s = record { at = s.at; second = s.moment }

-- `c = {..}` first deletes what the collection held, just before the timestamp, so that its own elements stay
abbrev pub deletion_before : Stamp → Deletion
deletion_before s = record { at = s.at -ℤ pos 1; second = s.moment }

-- a write of a cell in the row, or in the static row where there is none
abbrev pub write_at : Option Clustering → ColumnRef → List ℕ → Cell → Atom
write_at None column path v = atom.StaticWrite column path v
write_at (Some c) column path v = atom.Write c column path v

-- the deletion of a collection of the row, or of the static row where there is none
abbrev pub emptied_at : Option Clustering → ColumnRef → Deletion → Atom
emptied_at None column d = atom.StaticCollectionDeletion column d
emptied_at (Some c) column d = atom.CollectionDeletion c column d

-- the place of a list's value, by whose bytes the values are ordered: an order number, then the index in the literal, eight bytes each (own)
abbrev pub list_path : ℕ → ℕ → List ℕ
list_path order index = to_be_bytes w64 order ++ to_be_bytes w64 index

-- a list's value with its place, of the index and the value
abbrev pub placed_at : ℕ → ℕ × List ℕ → List ℕ × Option (List ℕ)
placed_at order v = (list_path order v.0, Some v.1)

-- elements with their paths; a mutation of a greater number appends further after the middle of the list, and prepends further before it
abbrev pub placed : ℕ → Elements → List (List ℕ × Option (List ℕ))
placed number (elements.At es) = es
placed number (elements.Appended vs) = map (placed_at (LIST_MIDDLE + number)) (enumerate_from 0 vs)
placed number (elements.Prepended vs) = map (placed_at (LIST_MIDDLE - number)) (enumerate_from 0 vs)

-- one element of a collection is one cell; an element that is taken out is a tombstone
abbrev pub element_atom : Stamp → Option Clustering → ColumnRef → List ℕ × Option (List ℕ) → Atom
element_atom s row column e = write_at row column e.0 (cell_of s e.1)

-- the elements of a collection, one after another
unfoldable pub element_atoms : Stamp → Option Clustering → ColumnRef → Elements → List Atom
element_atoms s row column es = map (element_atom s row column) (placed s.number es)

-- the atoms of one effect; a range that ends where it begins, or before, has none
unfoldable pub effect_atoms : Stamp → Effect → List Atom
effect_atoms s (effect.Live c) = atom.Live c (live_of s) ∷ []
effect_atoms s (effect.Plain row column v) = write_at row column [] (cell_of s v) ∷ []
effect_atoms s (effect.Whole row column es) = emptied_at row column (deletion_before s) ∷ element_atoms s row column es
effect_atoms s (effect.Parts row column es) = element_atoms s row column es
effect_atoms s (effect.Emptied row column) = emptied_at row column (deletion_of s) ∷ []
effect_atoms s (effect.Row c) = atom.RowDeletion c (deletion_of s) ∷ []
effect_atoms s (effect.Range lo hi) = if is_lt (cut_cmp lo hi) then atom.RangeDeletion lo hi (deletion_of s) ∷ [] else []
effect_atoms s effect.Partition = atom.PartitionDeletion (deletion_of s) ∷ []

-- the timestamp of USING TIMESTAMP, and without it the one that was drawn for the statement
abbrev pub stamp_of : BoundWrite → ℤ → ℤ → ℕ → Stamp
stamp_of w drawn moment number = record { at = unwrap_or w.timestamp drawn; moment = moment; number = number; ttl = w.ttl }

-- the mutation of a write: its atoms effect by effect, at the timestamp, the moment and the number that its shard gives it
unfoldable pub mutation_of : BoundWrite → ℤ → ℤ → ℕ → Mutation
mutation_of w drawn moment number =
    record {
      table = w.table;
      shard = w.shard;
      number = number;
      drawn = is_none w.timestamp;
      at = unwrap_or w.timestamp drawn;
      moment = moment;
      key = w.key;
      atoms = flat_map (effect_atoms (stamp_of w drawn moment number)) w.effects;
    }
