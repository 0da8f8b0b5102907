-- Mutations at the front that stand in table files tell the next run nothing that the manifest and the files don't.
use Rattle.std.proofs.Common.{◌≡◌, ◌+◌, ℕ, List, [], ◌∷◌, ◌++◌, length, max, refl, ap, ◌∙◌, subst, append_assoc}
use Rattle.std.proofs.lemmas.Bool.{le-ltb}
use Rattle.std.proofs.lemmas.Grind.{flat_map-append}
use Rattle.std.proofs.lemmas.List.Elements.{filter-append}
use Rattle.std.specs.Prelude.{◌==◌, if◌then◌else◌}
use Rattle.std.specs.Int.{int_max}
use Rattle.std.specs.List.{AllByRecursion}
use Rattle.cas_atoms.specs.declared.atom.Mutation.{Mutation}
use Rattle.cas_changes.specs.Saying.{Saying, part_of}
use Rattle.cas_disk.specs.Disk.{Disk}
use Rattle.cas_opening.specs.Opening.{is_above}
use Rattle.cas_recovery.specs.Found.{found_in}
use Rattle.cas_recovery.specs.Openings.{IsOpening, SayAll, greatest_frontier, times_of, unflushed_of}
use Rattle.cas_replay.specs.Grammar.{AreInOrder, AscendByOne, numbers_of}
use Rattle.cas_room.specs.Keeping.{IsFlushed}
use Rattle.cas_shard.specs.declared.entry.ShardOpening.{ShardOpening}
use Rattle.cas_shard.specs.Stands.{mutations_of}

-- ---- their numbers

ascend_behind : (xs ys : List ℕ) → AscendByOne (xs ++ ys) → AscendByOne ys
ascend_behind [] ys goes = goes
ascend_behind (x ∷ []) [] goes = tt
ascend_behind (x ∷ []) (y ∷ ys) goes = goes.1
ascend_behind (x ∷ z ∷ xs) ys goes = ascend_behind (z ∷ xs) ys goes.1

numbers_both : (n : ℕ) (ds ms : List Mutation) → numbers_of n (ds ++ ms) ≡ numbers_of n ds ++ numbers_of n ms
numbers_both n ds ms = flat_map-append (λ (m : Mutation). if m.shard == n then m.number ∷ [] else []) ds ms

pub ordered_behind : (ds ms : List Mutation) → AreInOrder (ds ++ ms) → AreInOrder ms
ordered_behind ds ms ordered n = ascend_behind (numbers_of n ds) (numbers_of n ms) (subst AscendByOne (numbers_both n ds ms) (ordered n))

pub next_behind : (n k : ℕ) (ds ms : List Mutation) → AscendByOne (numbers_of n (ds ++ ms) ++ k ∷ []) → AscendByOne (numbers_of n ms ++ k ∷ [])
next_behind n k ds ms goes =
    ascend_behind (numbers_of n ds) (numbers_of n ms ++ k ∷ [])
    (subst AscendByOne (ap (λ (ns : List ℕ). ns ++ k ∷ []) (numbers_both n ds ms) ∙ append_assoc (numbers_of n ds) (numbers_of n ms) (k ∷ [])) goes)

-- ---- none is above its frontier

module _ (s : Saying) where
  none_above : (ds : List Mutation) → AllByRecursion (IsFlushed s) ds → unflushed_of s ds ≡ []
  none_above [] all = refl
  none_above (m ∷ ds) all =
      ap (λ b. if b then m ∷ unflushed_of s ds else unflushed_of s ds) (le-ltb (part_of s m.table m.shard).frontier m.number all.0.below) ∙ none_above ds all.1

  pub unflushed_behind : (ds ms : List Mutation) → AllByRecursion (IsFlushed s) ds → unflushed_of s (ds ++ ms) ≡ unflushed_of s ms
  unflushed_behind ds ms all = filter-append (is_above s) ds ms ∙ ap (λ (ns : List Mutation). ns ++ unflushed_of s ms) (none_above ds all)

  -- what a shard may have been
  pub opening_behind : (ds ms : List Mutation) (folder : Disk) (n : ℕ) (o : ShardOpening) → AllByRecursion (IsFlushed s) ds → IsOpening s (ds ++ ms) folder n o → IsOpening s ms folder n o
  opening_behind ds ms folder n o all is =
      let same : unflushed_of s (ds ++ ms) ≡ unflushed_of s ms = unflushed_behind ds ms all in
      record {
        rise = is.rise;
        number = is.number ∙ ap (λ (ns : List Mutation). max (found_in n ns).number (greatest_frontier s n (length s.tables))) same;
        goes_on = next_behind n (o.number + 1) ds ms is.goes_on;
        drawn = is.drawn ∙ ap (λ (ns : List Mutation). int_max (found_in n ns).drawn (times_of s n).drawn) same;
        moment = is.moment ∙ ap (λ (ns : List Mutation). int_max (found_in n ns).moment (times_of s n).moment) same;
        says = λ table t there.
            subst (λ (ns : List Mutation). SayAll folder t n (part_of s table n).listed (mutations_of table (found_in n ns).entries) (mutations_of table o.entries)) same
            (is.says table t there);
        no_others = is.no_others;
      }
