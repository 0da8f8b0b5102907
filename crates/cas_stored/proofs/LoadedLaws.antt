-- A table that was loaded of a file of contents.
use Rattle.std.proofs.Common.{◌≡◌, Ok, refl}
use Rattle.cas_codec.specs.declared.fault.ReadFault.{ReadFault}
use Rattle.std.specs.Prelude.{Result}
use Rattle.cas_sstread.specs.Reading.{Loaded}
use Rattle.cas_sstread.specs.Laws.{kept_for}
use Rattle.cas_sstread.proofs.ContentsLoad.{tables_load}
use Rattle.cas_tables.specs.Files.{table_bytes}
use Rattle.cas_stored.specs.Laws.{LoadedIsOf}

same_kept : (r : Result Loaded ReadFault) (a b : Loaded) → r ≡ Ok a → r ≡ Ok b → a ≡ b
same_kept r a b x y = cc

pub loaded_is_of : LoadedIsOf
loaded_is_of t c f fits facts told loaded = record {
  fits = fits;
  contents = told;
  kept = same_kept _ t.kept (kept_for c) loaded (tables_load.loads t.columns c (table_bytes c f) fits (record { facts = f; of_atoms = facts; spelled = refl }));
}
