-- The sources of a partition, file by file (own).
use Rattle.std.specs.Prelude.{◌≡◌, ℕ, true, false, Option, None, Result, Ok, List, [], ◌∷◌, ◌++◌}
use Rattle.std.specs.Option.{option_to_list}
use Rattle.cas_cell.specs.declared.deletion.Deletion.{Deletion}
use Rattle.cas_bounds.specs.declared.cuts.Slice.{Slice}
use Rattle.cas_streams.specs.declared.fragment.Fragment.{Fragment}
use Rattle.cas_facts.specs.declared.facts.Facts.{Facts}
use Rattle.cas_tables.specs.Contents.{Contents}
use Rattle.cas_blocks.specs.declared.fault.TableFault.{TableFault}
use Rattle.cas_sstread.specs.Loading.{Held}
use Rattle.cas_stored.specs.Contents.{AnswersOf, IsOf}
use Rattle.cas_reading.specs.Slices.{Answers}
use Rattle.cas_view.specs.Views.{File, may_hold}

-- what is answered of a file: none where its range denies the key, and else what filter, index and bytes tell, which is what its contents have
pub record FileAnswers {X : Type 0} (f : File Held) (key : List ℕ) (s : Slice) (top : X → Option Deletion) (to_come : X → Option (List Fragment))
    (r : Result (Option X) TableFault) : Type 0 where
  pub outside : may_hold f.info key ≡ false → r ≡ Ok None
  pub within : may_hold f.info key ≡ true → Answers f.table key s top to_come r
  pub contents : may_hold f.info key ≡ true → (c : Contents) (facts : Facts) → IsOf f.table c facts → AnswersOf c key s top to_come r

-- one source of each file that has the key, in their order
abbrev pub FilesGive : {X : Type 0} → List ℕ → Slice → (X → Option Deletion) → (X → Option (List Fragment)) → List (File Held) → List X
    → Type 0
FilesGive key s top to_come [] xs = xs ≡ []
FilesGive {X} key s top to_come (f ∷ fs) xs =
    (o : Option X) × (rest : List X) × FileAnswers f key s top to_come (Ok o) × (xs ≡ option_to_list o ++ rest)
    × FilesGive key s top to_come fs rest

-- behind those that were there
abbrev pub FilesGiveBehind : {X : Type 0} → List ℕ → Slice → (X → Option Deletion) → (X → Option (List Fragment)) → List (File Held) → List X → List X
    → Type 0
FilesGiveBehind {X} key s top to_come fs old new = (xs : List X) × (new ≡ old ++ xs) × FilesGive key s top to_come fs xs
