-- The sources of memtables, one after another.
use Rattle.std.proofs.Common.{◌≡◌, ℕ, Option, List, ◌∷◌, ◌++◌, refl, sym, ap, ◌∙◌, subst, append_assoc}
use Rattle.std.specs.Option.{option_to_list}
use Rattle.cas_cell.specs.declared.deletion.Deletion.{Deletion}
use Rattle.cas_bounds.specs.declared.cuts.Slice.{Slice}
use Rattle.cas_memtable.specs.Memtables.{held_at, GivesPart}
use Rattle.cas_memtable.specs.Inner.Gathered.{GathersBehind}
use Rattle.cas_memtable.specs.declared.memtable.MemPart.{MemPart}
use Rattle.cas_streams.specs.declared.fragment.Fragment.{Fragment}

-- that of the first one, and those of the others
pub gathers_first : {M : Type 0} (tells : M → Option (List Fragment)) (tops : M → Option Deletion) (s : Slice) (key : List ℕ) (m : MemPart) (ms all : List MemPart) (old mid new : List M) (o : Option M)
    → all ≡ m ∷ ms → GivesPart s (held_at m key) tells tops o → mid ≡ old ++ option_to_list o → GathersBehind tells tops s key ms mid new → GathersBehind tells tops s key all old new
gathers_first tells tops s key m ms all old mid new o e part put (xs, is, gathers) =
    subst (λ l. GathersBehind tells tops s key l old new) (sym e)
    (option_to_list o ++ xs, is ∙ ap (λ l. l ++ xs) put ∙ append_assoc old (option_to_list o) xs, (o, xs, part, refl, gathers))
