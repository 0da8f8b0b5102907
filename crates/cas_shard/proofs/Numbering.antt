-- The numbers of a shard's mutations rise, whatever is restored and entered; so those up to its number are all of them.
use Rattle.std.proofs.Common.{◌≡◌, ◌<◌, ◌≤◌, ◌+◌, ℕ, Bool, List, [], ◌∷◌, ◌++◌, max, refl, sym, ap, ap₂, ◌∙◌, subst, append-nil, append_assoc, arith}
use Rattle.std.specs.Prelude.{if◌then◌else◌, ◌&&◌, nat_le}
use Rattle.std.specs.List.{flat_map, fold}
use Rattle.std.proofs.lemmas.Bool.Decides.{nat_tests}
use Rattle.std.proofs.lemmas.List.Sums.{fold-append}
use Rattle.std.proofs.lemmas.Grind.{flat_map-append}
use Rattle.cas_atoms.specs.declared.atom.Atom.{Atom}
use Rattle.cas_atoms.specs.declared.atom.Mutation.{Mutation}
use Rattle.cas_shard.specs.declared.entry.Entry.{Entry}
use Rattle.cas_shard.specs.declared.entry.Entry.TheVariants.{Wrote}
use Rattle.cas_shard.specs.declared.entry.ShardOpening.{ShardOpening}
use Rattle.cas_shard.specs.Entries.{AreNumbered, atoms_if, first, is_of_partition, last_number, number_after}
use Rattle.cas_shard.specs.Laws.{atoms_of_partition}
use Rattle.cas_shard.specs.Shards.{ShardHistory, all_entries, entered, found_shard, number_of, restored}
use Rattle.cas_shard.specs.Stands.{Ascend, NumbersRise, written_to}

-- ---- numbers

-- the last is the greatest
least : (n : ℕ) (xs : List Entry) → Ascend n xs → n ≤ fold number_after n xs
least n [] h = omega arith
least n (Wrote s c m ∷ xs) h = let rest = least m.number xs h.1 in omega (arith, rest, h.0)

ascend_more : (n : ℕ) (xs ys : List Entry) → Ascend n xs → Ascend (fold number_after n xs) ys → Ascend n (xs ++ ys)
ascend_more n [] ys h e = e
ascend_more n (Wrote s c m ∷ xs) ys h e = (h.0, ascend_more m.number xs ys h.1 e)

ascends : (n : ℕ) (xs : List Entry) → AreNumbered n xs → Ascend n xs
ascends n [] h = tt
ascends n (Wrote s c m ∷ xs) h = (omega (arith, h.0), ascends m.number xs (subst (λ k. AreNumbered k xs) (sym h.0) h.1))

numbered_more : (n : ℕ) (xs ys : List Entry) → AreNumbered n xs → AreNumbered (fold number_after n xs) ys → AreNumbered n (xs ++ ys)
numbered_more n [] ys h e = e
numbered_more n (Wrote s c m ∷ xs) ys h e = (h.0, numbered_more (n + 1) xs ys h.1 (subst (λ k. AreNumbered (fold number_after k xs) ys) h.0 e))

-- ---- what stands up to a number

low : (a k : ℕ) (b : Bool) (xs : List Atom) → a ≤ k → (if nat_le a k && b then xs else []) ≡ (if b then xs else [])
low a k b xs h = grind (arith, nat_tests, h)

stand_up_to : (n k table : ℕ) (key : List ℕ) (xs : List Entry) → Ascend n xs → fold number_after n xs ≤ k → flat_map (atoms_if k table key) xs ≡ flat_map (atoms_of_partition table key) xs
stand_up_to n k table key [] h e = refl
stand_up_to n k table key (Wrote s c m ∷ xs) h e =
    ap₂ (λ ps qs. ps ++ qs) (low m.number k (is_of_partition table key m) m.atoms (omega (arith, least m.number xs h.1, e))) (stand_up_to m.number k table key xs h.1 e)

-- all of a shard's mutations stand up to its number
pub all_stand : (s : ShardHistory) (table : ℕ) (key : List ℕ) → NumbersRise s → first (number_of s) table key (all_entries s) ≡ written_to table (all_entries s) key
unfolding first last_number
all_stand s table key h =
    let since : Ascend s.found.number s.entries = ascends s.found.number s.entries h.rise in
    flat_map-append (atoms_if (number_of s) table key) s.found.entries s.entries
    ∙ ap₂ (λ ps qs. ps ++ qs)
    (stand_up_to 0 (number_of s) table key s.found.entries h.ascend (omega (arith, h.found, least s.found.number s.entries since)))
    (stand_up_to s.found.number (number_of s) table key s.entries since (omega arith))
    ∙ sym (flat_map-append (atoms_of_partition table key) s.found.entries s.entries)

-- ---- one more

pub all_joined : (s : ShardHistory) (new : List Entry) → all_entries (entered new s) ≡ all_entries s ++ new
all_joined s new = sym (append_assoc s.found.entries s.entries new)

pub all_restored : (o : ShardOpening) (m : Mutation) → all_entries (found_shard (restored m o)) ≡ all_entries (found_shard o) ++ Wrote 0 0 m ∷ []
all_restored o m = append-nil (o.entries ++ Wrote 0 0 m ∷ []) ∙ ap (λ xs. xs ++ Wrote 0 0 m ∷ []) (sym (append-nil o.entries))

pub one_entered : (session call : ℕ) (m : Mutation) (s : ShardHistory) → NumbersRise s → m.number ≡ number_of s + 1 → NumbersRise (entered (Wrote session call m ∷ []) s)
unfolding last_number
one_entered session call m s h next = record {
  ascend = h.ascend;
  found = h.found;
  rise = numbered_more s.found.number s.entries (Wrote session call m ∷ []) h.rise (next, tt);
}

pub one_restored : (m : Mutation) (o : ShardOpening) → NumbersRise (found_shard o) → last_number 0 o.entries < m.number → NumbersRise (found_shard (restored m o))
unfolding last_number
one_restored m o h above = record {
  ascend = ascend_more 0 o.entries (Wrote 0 0 m ∷ []) h.ascend (above, tt);
  found = subst (λ k. k ≤ max o.number m.number) (sym (fold-append number_after 0 o.entries (Wrote 0 0 m ∷ []))) (omega arith);
  rise = tt;
}
