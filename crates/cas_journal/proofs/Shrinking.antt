-- Segments that are dropped, one after another.
use Rattle.std.proofs.Common.{◌≡◌, inl, inr, ⊎_elim, ℕ, zero, suc, ◌+◌, ◌≤◌, List, [], ◌∷◌, ◌++◌, length, map, take, drop, Option, None, Some, Ok, refl, sym, ap, subst, ◌∙◌, arith, append_assoc, length-append}
use Rattle.std.specs.List.{AllByRecursion}
use Rattle.std.proofs.lemmas.List.{append-nil, drop-drop, map-append}
use Rattle.std.proofs.lemmas.Option.{unwrap_or-slice_get}
use Rattle.cas_disk.specs.Disk.{Disk, During}
use Rattle.cas_disk.proofs.Moments.{leaves_either}
use Rattle.cas_atoms.specs.declared.atom.Mutation.{Mutation}
use Rattle.cas_changes.specs.declared.entry.Entry.{Entry}
use Rattle.cas_changes.specs.declared.entry.Entry.TheVariants.{DropSegment}
use Rattle.cas_replay.specs.Tops.{AreNoted, IsCovered, place_in, number_at}
use Rattle.cas_replay.specs.Reading.{frontier_of}
use Rattle.cas_replay.specs.declared.tops.Tops.{Tops}
use Rattle.cas_journal.specs.Inner.Noting.{IsFirstCovered, IsFirstNoted}
use Rattle.cas_journal.specs.Stores.{Found, Told, Dropped, HoldsDropped, without}
use Rattle.cas_journal.specs.Journals.{Lasts}
use Rattle.cas_gates.specs.declared.first.First.{First}
use Rattle.cas_journal.specs.Ends.{Ends, LastsDropped}
use Rattle.cas_journal.specs.Inner.Dropping.{IsLowest, HasFirst, HoldsWithout, LastsAfter}
use Rattle.cas_journal.specs.declared.fault.JournalFault.{JournalFault}
use Rattle.cas_journal.specs.declared.fault.JournalFault.TheVariants.{TooLarge, TooMany, Stopped, Failed, Mem}
use Rattle.cas_journal.specs.declared.journal.Journal.{Journal}
use Rattle.cas_journal.specs.declared.notes.Note.{Note}

-- what is noted first is the lowest segment
pub lowest_of : (notes : List Note) (frontiers : List ℕ) (number : ℕ) (listed : List ℕ) → map (λ (n : Note). n.segment) notes ≡ listed → IsFirstCovered notes frontiers number
    → IsLowest number listed
lowest_of [] frontiers number listed is first = absurd first
lowest_of (n ∷ []) frontiers number listed is first = absurd first
lowest_of (n ∷ next ∷ notes) frontiers number listed is first =
    (next.segment, map (λ (k : Note). k.segment) notes, sym is ∙ ap (λ (k : ℕ). k ∷ next.segment ∷ map (λ (k : Note). k.segment) notes) first.0)

-- there is one
pub some_first : (notes : List Note) (frontiers : List ℕ) (number : ℕ) → IsFirstCovered notes frontiers number → 1 ≤ length notes
some_first [] frontiers number first = absurd first
some_first (n ∷ notes) frontiers number first = omega arith

-- no fault is kept after Ok
pub still_going : {X : Type 0} (first kept : Option First) (before now : ℕ) (x : X) → first ≡ None → Ends first kept before now (Ok x) → kept ≡ None
still_going None kept before now x none ends = ends
still_going (Some f) kept before now x none ends = absurd cc

module _ (shards : ℕ) (frontiers : List ℕ) where
  -- at or below its frontier
  abbrev pub IsBelow : Mutation → Type 0
  IsBelow m = m.number ≤ frontier_of shards frontiers m.table m.shard

  all_below : (tops : Tops) → IsCovered tops frontiers → (ms : List Mutation) → AreNoted shards tops ms → AllByRecursion IsBelow ms
  all_below tops covered [] noted = tt
  all_below tops covered (m ∷ ms) noted =
      let is : frontier_of shards frontiers m.table m.shard ≡ number_at frontiers (place_in shards m) = unwrap_or-slice_get frontiers (place_in shards m) 0 in
      (omega (arith, noted.0, covered (place_in shards m), is), all_below tops covered ms noted.1)

  -- the mutations of the first segment, where that is covered
  pub first_below : (notes : List Note) (number : ℕ) → IsFirstCovered notes frontiers number → (found : Found) (ms : List Mutation) → IsFirstNoted shards found notes ms → AllByRecursion IsBelow ms
  first_below [] number first found ms noted = absurd first
  first_below (n ∷ []) number first found ms noted = absurd first
  first_below (n ∷ next ∷ notes) number first found ms noted = all_below n.tops first.1 ms noted.noted

  all_take : (a b n : ℕ) (ms : List Mutation) → n ≡ a + b → AllByRecursion IsBelow (take a ms) → AllByRecursion IsBelow (take b (drop a ms)) → AllByRecursion IsBelow (take n ms)
  all_take zero b n ms is front back = subst (λ (k : ℕ). AllByRecursion IsBelow (take k ms)) (let e : b ≡ n = omega (arith, is) in e) back
  all_take (suc a) b zero ms is front back = tt
  all_take (suc a) b (suc n) [] is front back = tt
  all_take (suc a) b (suc n) (m ∷ ms) is front back = (front.0, all_take a b n ms (omega (arith, is)) front.1 back)

  -- none is dropped yet
  pub none_dropped : (t : Told) → Dropped shards frontiers t t
  none_dropped t =
      record { found = refl; numbers = []; many = 0; entries = sym (append-nil t.entries); failed = refl; taken = refl; committed = omega arith; leaving = refl; covered = tt }

  pub none_yet : (t : Told) (j : Journal) (disk : Disk) → Lasts j disk t → (u : Told) × (d : Dropped shards frontiers t u) × (length d.numbers ≡ 0) × Lasts j disk u
  unfolding none_dropped
  none_yet t j disk lasts = (t, none_dropped t, refl, lasts)

  -- one more
  pub dropped_more : (t u : Told) → Dropped shards frontiers t u → (number many : ℕ) → many ≤ u.committed → AllByRecursion IsBelow (take many u.taken)
      → Dropped shards frontiers t (without number many u)
  dropped_more t u dropped number many few below = record {
    found = dropped.found;
    numbers = dropped.numbers ++ number ∷ [];
    many = dropped.many + many;
    entries = ap (λ (l : List Entry). l ++ DropSegment number ∷ []) dropped.entries ∙ append_assoc t.entries (map DropSegment dropped.numbers) (DropSegment number ∷ [])
        ∙ ap (λ (l : List Entry). t.entries ++ l) (sym (map-append DropSegment dropped.numbers (number ∷ [])));
    failed = dropped.failed;
    taken = ap (drop many) dropped.taken ∙ drop-drop many dropped.many t.taken;
    committed = omega (arith, dropped.committed, few);
    leaving = dropped.leaving;
    covered = all_take dropped.many many (dropped.many + many) t.taken refl dropped.covered
        (subst (λ (ms : List Mutation). AllByRecursion IsBelow (take many ms)) dropped.taken below);
  }

  module _ (t u : Told) (dropped : Dropped shards frontiers t u) (j : Journal) (number : ℕ) (same : j.notes.shards ≡ shards)
      (first : IsFirstCovered j.notes.list.items frontiers number) (b : Disk) where
    pub one_more : (many : ℕ) → HasFirst j.notes number many u b → Dropped shards frontiers t (without number many u)
    one_more many has =
        dropped_more t u dropped number many has.committed
        (first_below j.notes.list.items number first u.found (take many u.taken)
        (subst (λ (n : ℕ). IsFirstNoted n u.found j.notes.list.items (take many u.taken)) same has.noted))

    pub more_leaves : (a z : Disk) → During (λ _ c. HoldsDropped shards frontiers t c) a b → During (λ _ c. HoldsWithout j.notes number u b c) b z
        → During (λ _ c. HoldsDropped shards frontiers t c) a z
    more_leaves a z before now =
        leaves_either (λ c. HoldsDropped shards frontiers t c) (λ c. HoldsWithout j.notes number u b c) (λ c. HoldsDropped shards frontiers t c) a b z before now
        (λ c holds. holds)
        (λ c holds. ⊎_elim (λ stays. (u, dropped, inl stays)) (λ gone. (u, dropped, inr (number, gone.0, gone.1.committed, one_more gone.0 gone.1, gone.2))) holds)

    -- after a fault
    pub fault_dropped : (f : JournalFault) (k : Journal) (z : Disk) → LastsAfter f k z j.notes number u b → LastsDropped f k z shards frontiers t
    fault_dropped Failed k z lasts = (u, dropped, number, lasts.0, lasts.1.committed, one_more lasts.0 lasts.1, lasts.2)
    fault_dropped Mem k z lasts = (u, dropped, lasts)
    fault_dropped (TooMany what most) k z lasts = (u, dropped, lasts)
    fault_dropped (TooLarge long most) k z lasts = (u, dropped, lasts)
    fault_dropped (Stopped x) k z lasts = (u, dropped, lasts)

    -- a turn
    pub next_turn : (n : ℕ) → length dropped.numbers ≡ n → (k : Journal) (z : Disk)
        → (many : ℕ) × HasFirst j.notes number many u b × Lasts k z (without number many u)
        → (v : Told) × (d : Dropped shards frontiers t v) × (length d.numbers ≡ n + 1) × Lasts k z v
    unfolding one_more dropped_more
    next_turn n count k z (many, has, lasts) = (
      without number many u,
      one_more many has,
      omega (arith, length-append dropped.numbers (number ∷ []), count),
      lasts,
    )
