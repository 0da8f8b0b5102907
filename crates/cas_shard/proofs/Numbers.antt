-- The numbers of a shard's mutations.
use Rattle.std.proofs.Common.{◌≡◌, ◌≤◌, ℕ, ℤ, Bool, List, [], ◌∷◌, ◌++◌, filter, refl, sym, ap, ap₂, ◌∙◌, arith}
use Rattle.std.specs.Prelude.{if◌then◌else◌, ◌&&◌, nat_le}
use Rattle.std.specs.List.{flat_map, fold}
use Rattle.std.proofs.lemmas.Bool.Decides.{nat_tests}
use Rattle.std.proofs.lemmas.List.Sums.{fold-append}
use Rattle.std.proofs.lemmas.Grind.{flat_map-append}
use Rattle.std.proofs.lemmas.List.Elements.{filter-append}
use Rattle.cas_bounds.specs.declared.cuts.Slice.{Slice}
use Rattle.cas_laws.specs.Inside.{is_read}
use Rattle.cas_atoms.specs.declared.atom.Atom.{Atom}
use Rattle.cas_shard.specs.declared.entry.Entry.{Entry}
use Rattle.cas_shard.specs.declared.entry.Entry.TheVariants as entry
use Rattle.cas_shard.specs.Entries.{AreNumbered, atoms_if, first, is_of_partition, last_number, last_drawn, number_after, drawn_after}
use Rattle.cas_shard.specs.Laws.{AllStand, atoms_of_partition}

-- numbers rise: the last is at least the first
least : (n : ℕ) (entries : List Entry) → AreNumbered n entries → n ≤ fold number_after n entries
least n [] h = omega arith
least n (entry.Wrote s c m ∷ entries) h = let rest = least m.number entries (rw (h.0) h.1) in omega (arith, rest, h.0)

low : (a : ℕ) (k : ℕ) (b : Bool) (xs : List Atom) → a ≤ k → (if nat_le a k && b then xs else []) ≡ (if b then xs else [])
low a k b xs h = grind (arith, nat_tests, h)

all_stand : (n k table : ℕ) (key : List ℕ) (entries : List Entry) → AreNumbered n entries → fold number_after n entries ≤ k
    → flat_map (atoms_if k table key) entries ≡ flat_map (atoms_of_partition table key) entries
all_stand n k table key [] h e = refl
all_stand n k table key (entry.Wrote s c m ∷ entries) h e =
    let numbered : AreNumbered m.number entries = rw (h.0) h.1 in
    ap₂ (λ xs ys. xs ++ ys)
    (low m.number k (is_of_partition table key m) m.atoms (omega (arith, least m.number entries numbered, e)))
    (all_stand m.number k table key entries numbered e)

pub all_stand_up_to : AllStand
unfolding first last_number
all_stand_up_to n k table key entries h e = all_stand n k table key entries h e

-- one entry more
pub last_number_more : (n : ℕ) (entries : List Entry) (e : Entry) → last_number n (entries ++ e ∷ []) ≡ number_after (last_number n entries) e
unfolding last_number
last_number_more n entries e = fold-append number_after n entries (e ∷ [])

pub last_drawn_more : (drawn : ℤ) (entries : List Entry) (e : Entry) → last_drawn drawn (entries ++ e ∷ []) ≡ drawn_after (last_drawn drawn entries) e
unfolding last_drawn
last_drawn_more drawn entries e = fold-append drawn_after drawn entries (e ∷ [])

-- no entry
pub last_of_none : (n : ℕ) → last_number n [] ≡ n
unfolding last_number
last_of_none n = refl

pub drawn_of_none : (drawn : ℤ) → last_drawn drawn [] ≡ drawn
unfolding last_drawn
drawn_of_none drawn = refl

-- what is read of the entries from before a run, and of those of the run
pub read_of_both : (s : Slice) (k table : ℕ) (key : List ℕ) (xs ys : List Entry)
    → filter (is_read s) (first k table key xs) ++ filter (is_read s) (first k table key ys) ≡ filter (is_read s) (first k table key (xs ++ ys))
unfolding first
read_of_both s k table key xs ys =
    sym (filter-append (is_read s) (flat_map (atoms_if k table key) xs) (flat_map (atoms_if k table key) ys))
    ∙ ap (filter (is_read s)) (sym (flat_map-append (atoms_if k table key) xs ys))

-- what is read of one entry more
pub read_more : (s : Slice) (xs ys : List Atom) → filter (is_read s) xs ++ filter (is_read s) ys ≡ filter (is_read s) (xs ++ ys)
read_more s xs ys = sym (filter-append (is_read s) xs ys)
