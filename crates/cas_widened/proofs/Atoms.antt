-- Atoms and mutations that a table may hold.
use Rattle.std.proofs.Common.{ℕ, Bool, List, ◌++◌}
use Rattle.cas_types.specs.declared.schema.Column.{Column}
use Rattle.cas_types.specs.declared.schema.Kind.{Kind}
use Rattle.cas_cell.specs.declared.cell.Cell.{Cell}
use Rattle.cas_atoms.specs.Fits.{Fits, FitsWrite, FitsEmptied}
use Rattle.cas_atoms.specs.declared.atom.Atom.{Atom}
use Rattle.cas_atoms.specs.declared.atom.Atom.TheVariants as atom
use Rattle.cas_atoms.specs.declared.atom.ColumnRef.{ColumnRef}
use Rattle.cas_streams.proofs.Weaves.{all_so}
use Rattle.cas_partition.specs.Partitions.{AllFit}
use Rattle.cas_widened.specs.Laws.{AreAdded, MutationsStay}
use Rattle.cas_widened.proofs.Columns.{clustering_fits, range_fits, names_still}

module _ (columns more : List Column) (added : AreAdded more) where
  abbrev wide : List Column
  wide = columns ++ more

  write_fits : (is_of : Kind → Bool) (ref : ColumnRef) (p : List ℕ) (v : Cell) → FitsWrite is_of columns ref p v → FitsWrite is_of wide ref p v
  write_fits is_of ref p v fits =
      record { column = fits.column; named = names_still columns more ref fits.column fits.named; kind = fits.kind; path = fits.path; cell = fits.cell }

  emptied_fits : (is_of : Kind → Bool) (ref : ColumnRef) → FitsEmptied is_of columns ref → FitsEmptied is_of wide ref
  emptied_fits is_of ref fits =
      record { column = fits.column; named = names_still columns more ref fits.column fits.named; kind = fits.kind; collection = fits.collection }

  pub atom_fits : (a : Atom) → Fits columns a → Fits wide a
  atom_fits (atom.PartitionDeletion d) fits = fits
  atom_fits (atom.RangeDeletion lo hi d) fits = (range_fits columns more added lo hi fits.0, fits.1)
  atom_fits (atom.RowDeletion c d) fits = (clustering_fits columns more added c fits.0, fits.1)
  atom_fits (atom.CollectionDeletion c ref d) fits = (clustering_fits columns more added c fits.0, emptied_fits _ ref fits.1, fits.2)
  atom_fits (atom.Live c l) fits = (clustering_fits columns more added c fits.0, fits.1)
  atom_fits (atom.Write c ref p v) fits = (clustering_fits columns more added c fits.0, write_fits _ ref p v fits.1)
  atom_fits (atom.StaticWrite ref p v) fits = write_fits _ ref p v fits
  atom_fits (atom.StaticCollectionDeletion ref d) fits = (emptied_fits _ ref fits.0, fits.1)

  pub atoms_fit : (atoms : List Atom) → AllFit columns atoms → AllFit wide atoms
  atoms_fit atoms all = all_so (Fits columns) (Fits wide) atom_fits atoms all

pub mutations_stay : MutationsStay
mutations_stay columns more w added may = (may.0, atoms_fit columns more added w.atoms may.1)
