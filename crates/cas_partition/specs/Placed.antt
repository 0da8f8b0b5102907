-- Where an atom is kept in a partition (own).
use Rattle.std.specs.Prelude.{ℕ, Option, None, Some, List}
use Rattle.cas_types.specs.declared.tag.TypeTag.{TypeTag}
use Rattle.cas_cell.specs.declared.deletion.Deletion.{Deletion}
use Rattle.cas_cell.specs.declared.liveness.Liveness.{Liveness}
use Rattle.cas_cell.specs.declared.cell.Cell.{Cell}
use Rattle.cas_bounds.specs.declared.cuts.Clustering.{Clustering}
use Rattle.cas_bounds.specs.declared.map_key.End.TheVariants.{Row}
use Rattle.cas_bounds.specs.declared.map_key.MapKey.{MapKey}
use Rattle.cas_atoms.specs.declared.atom.Atom.{Atom}
use Rattle.cas_atoms.specs.declared.atom.Atom.TheVariants.{PartitionDeletion, RangeDeletion, RowDeletion, CollectionDeletion}
use Rattle.cas_atoms.specs.declared.atom.Atom.TheVariants.{Live, Write, StaticWrite, StaticCollectionDeletion}
use Rattle.cas_partition.specs.declared.spot.Spot.{Spot}
use Rattle.cas_partition.specs.declared.spot.Content.{Content}
use Rattle.cas_partition.specs.declared.spot.Room.{Room}
use Rattle.cas_partition.specs.declared.spot.Room.TheVariants as wants
use Rattle.cas_partition.specs.declared.spot.Addition.{Addition}
use Rattle.cas_partition.specs.declared.spot.Addition.TheVariants as gives

-- the key of a row
abbrev pub row_key : Clustering → MapKey
row_key c = record { values = c.values; end = Row; order = c.order }

-- a spot of a row or of the static row: of the row itself, of a column as a whole, or of one cell of it
abbrev pub spot : Option MapKey → Option ℕ → Option (List ℕ) → Spot
spot row column path = record { row = row; column = column; path = path }

-- where an atom is kept
abbrev pub wanted : Atom → Room
wanted (PartitionDeletion d) = wants.Whole
wanted (RangeDeletion lo hi d) = wants.Cuts lo hi
wanted (RowDeletion c d) = wants.At (spot (Some (row_key c)) None None) None
wanted (CollectionDeletion c ref d) = wants.At (spot (Some (row_key c)) (Some ref.number) None) ref.path
wanted (Live c l) = wants.At (spot (Some (row_key c)) None None) None
wanted (Write c ref p v) = wants.At (spot (Some (row_key c)) (Some ref.number) (Some p)) ref.path
wanted (StaticWrite ref p v) = wants.At (spot None (Some ref.number) (Some p)) ref.path
wanted (StaticCollectionDeletion ref d) = wants.At (spot None (Some ref.number) None) ref.path

-- a deletion, a liveness and a cell as what is said at a spot
abbrev pub deleted : Option TypeTag → Deletion → Content
deleted tag d = record { tag = tag; deletion = Some d; live = None; cell = None }

-- that a row lives by its INSERT
abbrev pub lives : Liveness → Content
lives l = record { tag = None; deletion = None; live = Some l; cell = None }

-- a cell
abbrev pub wrote : Option TypeTag → Cell → Content
wrote tag v = record { tag = tag; deletion = None; live = None; cell = Some v }

-- what an atom adds there
abbrev pub given : Atom → Addition
given (PartitionDeletion d) = gives.Whole d
given (RangeDeletion lo hi d) = gives.Range lo hi d
given (RowDeletion c d) = gives.At (spot (Some (row_key c)) None None) (deleted None d)
given (CollectionDeletion c ref d) = gives.At (spot (Some (row_key c)) (Some ref.number) None) (deleted ref.path d)
given (Live c l) = gives.At (spot (Some (row_key c)) None None) (lives l)
given (Write c ref p v) = gives.At (spot (Some (row_key c)) (Some ref.number) (Some p)) (wrote ref.path v)
given (StaticWrite ref p v) = gives.At (spot None (Some ref.number) (Some p)) (wrote ref.path v)
given (StaticCollectionDeletion ref d) = gives.At (spot None (Some ref.number) None) (deleted ref.path d)
