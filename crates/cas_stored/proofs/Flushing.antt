-- What files and memtables hold after a flush.
use Rattle.std.proofs.Common.{◌≡◌, ℕ, zero, suc, List, [], ◌∷◌, ◌++◌, length, refl, sym, ap, ◌∙◌, subst}
use Rattle.std.specs.Prelude.{take, drop}
use Rattle.std.specs.List.{AllByRecursion}
use Rattle.std.proofs.lemmas.Grind.{flat_map-append}
use Rattle.cas_types.specs.declared.schema.Column.{Column}
use Rattle.cas_bounds.specs.declared.order.Ordered.{Ordered}
use Rattle.cas_atoms.specs.declared.atom.Mutation.{Mutation}
use Rattle.cas_streams.proofs.Weaves.{all_and}
use Rattle.cas_memtable.specs.Memtables.{IsOfColumns}
use Rattle.cas_memtable.specs.declared.memtable.MemPart.{MemPart}
use Rattle.cas_memtable.specs.Kept.{StandInEach, all_of}
use Rattle.cas_sstread.specs.Loading.{Held}
use Rattle.cas_view.specs.Views.{File}
use Rattle.cas_stored.specs.Stored.{AreOfTable, HoldEach, IsFileOf, StandInFile, flushed, oldest}

-- ---- all mutations

take_and_drop : {X : Type 0} (n : ℕ) (xs : List X) → take n xs ++ drop n xs ≡ xs
take_and_drop zero xs = refl
take_and_drop (suc n) [] = refl
take_and_drop (suc n) (x ∷ xs) = ap (λ l. x ∷ l) (take_and_drop n xs)

in_parts : (count : ℕ) (wss : List (List Mutation)) → all_of (take count wss) ++ all_of (drop count wss) ≡ all_of wss
in_parts count wss = sym (flat_map-append (λ ws. ws) (take count wss) (drop count wss)) ∙ ap all_of (take_and_drop count wss)

-- where those of the memtables themselves stand in the file, all are held one after another as before
pub all_flushed : (files count : ℕ) (wss : List (List Mutation)) → all_of (flushed files count (oldest files count wss) wss) ≡ all_of wss
all_flushed zero count wss = in_parts count wss
all_flushed (suc files) count [] = in_parts count []
all_flushed (suc files) count (ws ∷ wss) = ap (λ l. ws ++ l) (all_flushed files count wss)

-- ---- what stands where

module _ (order : List Ordered) (ms ns : List MemPart) (f : File Held) (count : ℕ) (ws : List Mutation) (stands : StandInFile order f ws)
    (memory : (wss : List (List Mutation)) → StandInEach order ms wss → StandInEach order ns (drop count wss)) where
  pub flush_holds : (fs : List (File Held)) (wss : List (List Mutation)) → HoldEach order fs ms wss → HoldEach order (fs ++ f ∷ []) ns (flushed (length fs) count ws wss)
  flush_holds [] wss holds = (stands, memory wss holds)
  flush_holds (g ∷ fs) [] holds = absurd holds
  flush_holds (g ∷ fs) (vs ∷ wss) holds = (holds.0, flush_holds fs wss holds.1)

-- by the views before and after
pub swap_holds : (order : List Ordered) (ms ns : List MemPart) (old new fs : List (File Held)) (f : File Held) (count : ℕ) (ws : List Mutation) (wss : List (List Mutation))
    → ((wss : List (List Mutation)) → StandInEach order ms wss → StandInEach order ns (drop count wss)) → new ≡ fs → fs ≡ old ++ f ∷ []
    → HoldEach order old ms wss → StandInFile order f ws → HoldEach order new ns (flushed (length old) count ws wss)
swap_holds order ms ns old new fs f count ws wss memory set is holds stands =
    subst (λ l. HoldEach order l ns (flushed (length old) count ws wss)) (sym (set ∙ is)) (flush_holds order ms ns f count ws stands memory old wss holds)

pub swap_of : (columns : List Column) (ms ns : List MemPart) (old new fs : List (File Held)) (f : File Held)
    → (AllByRecursion (IsOfColumns columns) ms → AllByRecursion (IsOfColumns columns) ns) → new ≡ fs → fs ≡ old ++ f ∷ []
    → AreOfTable columns old ms → IsFileOf columns f → AreOfTable columns new ns
swap_of columns ms ns old new fs f memory set is of own = record {
  files = subst (AllByRecursion (IsFileOf columns)) (sym (set ∙ is)) (all_and (IsFileOf columns) old (f ∷ []) of.files (own, tt));
  memtables = memory of.memtables;
}

-- ---- files that an opening finds

pub adopt_holds : (order : List Ordered) (ms : List MemPart) (fs : List (File Held)) (vss wss : List (List Mutation)) → HoldEach order fs [] vss
    → StandInEach order ms wss → HoldEach order fs ms (vss ++ wss)
adopt_holds order ms [] [] wss holds memory = memory
adopt_holds order ms [] (ws ∷ vss) wss holds memory = absurd holds
adopt_holds order ms (f ∷ fs) [] wss holds memory = absurd holds
adopt_holds order ms (f ∷ fs) (ws ∷ vss) wss holds memory = (holds.0, adopt_holds order ms fs vss wss holds.1 memory)
