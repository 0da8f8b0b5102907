-- The merge of streams of one partition.
-- Cassandra documentation, "Operating: Compaction"; in which pairs streams are joined is own, and doesn't matter to what the merge says.
use Rattle.std.specs.Prelude.{◌≡◌, ℕ, None, Some, List, [], fold}
use Rattle.std.specs.List.{flat_map}
use Rattle.cas_types.specs.declared.schema.Column.{Column}
use Rattle.cas_cell.specs.declared.liveness.Liveness.{Liveness}
use Rattle.cas_cell.specs.declared.cell.Cell.{Cell}
use Rattle.cas_bounds.specs.declared.cuts.Clustering.{Clustering}
use Rattle.cas_atoms.specs.Coordinates.{clustered, static_row, path}
use Rattle.cas_atoms.specs.Winners.{live_winner, cell_winner}
use Rattle.cas_atoms.specs.declared.atom.ColumnRef.{ColumnRef}
use Rattle.cas_atoms.specs.declared.atom.Atom.{Atom}
use Rattle.cas_atoms.specs.declared.atom.Atom.TheVariants.{Live, Write, StaticWrite}
use Rattle.cas_laws.specs.Given.{Has}
use Rattle.cas_streams.specs.Flat.{flat}
use Rattle.cas_streams.specs.Streams.{WellFormed}
use Rattle.cas_streams.specs.Joined.{Stream, joined}
use Rattle.cas_streams.specs.Settled.{settled}

-- who is joined with whom, as in a tournament
pub data Draw : Type 0 where
  nobody : Draw
  one : Stream → Draw
  pair : Draw → Draw → Draw

-- one more stream in the draw, on the side that has fewer
abbrev pub entered : Draw → Stream → Draw
entered nobody s = one s
entered (one t) s = pair (one t) (one s)
entered (pair left right) s = pair (entered right s) left

-- all of them, one after another
abbrev pub draw : List Stream → Draw
draw ss = fold entered nobody ss

-- the streams of a draw joined
abbrev pub joined_all : Draw → Stream
joined_all nobody = record { top = None; fragments = [] }
joined_all (one s) = s
joined_all (pair left right) = joined (joined_all left) (joined_all right)

-- the merge: the streams joined, and what is left of that
abbrev pub merged : List Stream → Stream
merged ss = settled (joined_all (draw ss))

-- the atoms of a stream
abbrev pub flat_of : Stream → List Atom
flat_of s = flat s.top s.fragments

-- the atoms of all streams, one after another
abbrev pub flats : List Stream → List Atom
flats ss = flat_map flat_of ss

-- a stream that is merged: well formed, and each of its writes wins
pub record IsMerged (columns : List Column) (s : Stream) : Type 0 where
  pub well_formed : WellFormed columns s.fragments
  pub lives : (c : Clustering) (l : Liveness) → Has (flat_of s) (Live c l) → live_winner (flat_of s) c.values ≡ Some l
  pub cells : (c : Clustering) (column : ColumnRef) (p : List ℕ) (v : Cell) → Has (flat_of s) (Write c column p v)
      → cell_winner (flat_of s) (path (clustered c.values) column.number p) ≡ Some v
  pub statics : (column : ColumnRef) (p : List ℕ) (v : Cell) → Has (flat_of s) (StaticWrite column p v)
      → cell_winner (flat_of s) (path static_row column.number p) ≡ Some v
