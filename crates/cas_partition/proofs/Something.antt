-- Where something was said in a partition, something stays said; and what is joined is said.
use Rattle.std.proofs.Common.{◌≡◌, ℕ, true, false, cond, not, ◌&&◌, ◌||◌, Option, None, Some, List, [], ◌∷◌, ◌++◌, refl, sym, ap, ◌∙◌, subst}
use Rattle.std.proofs.lemmas.Bool.{true≢false}
use Rattle.std.proofs.lemmas.Option.{none-some}
use Rattle.std.specs.Cmp.{Equal-is}
use Rattle.std.specs.Map.{lookup, set_value}
use Rattle.std.specs.BTreeMap.{is_at}
use Rattle.std.specs.declared.cmp.Ordering.TheVariants.{Less, Equal}
use Rattle.std.specs.Ordering.{is_eq, is_le, is_lt, ordering_reverse}
use Rattle.cas_cell.specs.Deletions.{deletion_cmp}
use Rattle.cas_cell.specs.declared.deletion.Deletion.{Deletion}
use Rattle.cas_bounds.specs.Keys.{key_cmp}
use Rattle.cas_bounds.specs.Inner.KeyLaws.{key_total}
use Rattle.cas_bounds.specs.declared.cuts.Cut.{Cut}
use Rattle.cas_bounds.specs.declared.map_key.MapKey.{MapKey}
use Rattle.cas_atoms.specs.Greatest.{greater}
use Rattle.cas_atoms.specs.declared.atom.Atom.{Atom}
use Rattle.cas_atoms.specs.declared.atom.Atom.TheVariants.{PartitionDeletion, RangeDeletion}
use Rattle.cas_laws.proofs.GreatestProofs.{no_none}
use Rattle.cas_streams.specs.Flat.{Change, atom_of, own, between, ranges_after, ranges, at_end}
use Rattle.cas_streams.specs.Streams.{IsThere}
use Rattle.cas_streams.proofs.Weaves.{all_and, all_of}
use Rattle.cas_streams.proofs.Something.{No, there_if, none_made, made_none, greater_none_of, Silent, static_silent, row_silent, silent_own, joined_from, Still, ranges_still}
use Rattle.cas_partition.specs.Ranges.{key_of, lies, raised, has_cut, inserted, with_cut}
use Rattle.cas_partition.specs.Spots.{spot_cmp, joined_content, piece, said}
use Rattle.cas_partition.specs.Partitions.{said_at, atoms_with}
use Rattle.cas_partition.specs.declared.spot.Spot.{Spot}
use Rattle.cas_partition.specs.declared.spot.Content.{Content}
use Rattle.cas_partition.proofs.Saying.{Entries, spot_ties, pieces_join, twin_pieces}

-- a list that can't be empty has something
pub there_not : {X : Type 0} (xs : List X) → (No xs → ⊥) → IsThere xs
there_not [] h = absurd (h tt)
there_not (x ∷ xs) h = tt

pub there_more : {X : Type 0} (xs ys : List X) → IsThere xs → IsThere (xs ++ ys)
there_more [] ys is = absurd is
there_more (x ∷ xs) ys is = tt

-- ---- one more cut

inserted_after : (m : Change) (c : Cut) (ms : List Change) → No (ranges_after m (inserted m.to c ms)) → No (ranges_after m ms)
inserted_after m c [] n = tt
inserted_after m c (k ∷ ms) n =
    elim (is_lt (key_cmp (key_of c) (key_of k.at))) as (λ b. No (ranges_after m (cond b (record { at = c; to = m.to } ∷ k ∷ ms) (k ∷ inserted k.to c ms))) → No (ranges_after m (k ∷ ms))) [
      | true ↦ λ h.
          let here : Change = record { at = c; to = m.to } in
          let (first, rest) = all_of (λ a. ⊥) (between m here) (between here k ++ ranges_after k ms) h in
          let (then, last) = all_of (λ a. ⊥) (between here k) (ranges_after k ms) rest in
          all_and (λ a. ⊥) (between m k) (ranges_after k ms) (none_made (RangeDeletion m.at k.at) m.to (made_none (RangeDeletion m.at c) m.to first)) last
      | false ↦ λ h.
          let (first, rest) = all_of (λ a. ⊥) (between m k) (ranges_after k (inserted k.to c ms)) h in
          all_and (λ a. ⊥) (between m k) (ranges_after k ms) first (inserted_after k c ms rest)
    ] n

inserted_ranges : (c : Cut) (ms : List Change) → No (ranges (inserted None c ms)) → No (ranges ms)
inserted_ranges c [] n = tt
inserted_ranges c (m ∷ ms) n =
    elim (is_lt (key_cmp (key_of c) (key_of m.at))) as (λ b. No (ranges (cond b (record { at = c; to = None } ∷ m ∷ ms) (m ∷ inserted m.to c ms))) → No (ranges (m ∷ ms))) [
      | true ↦ λ h. h
      | false ↦ λ h. inserted_after m c ms h
    ] n

-- no range deletion is lost by it
pub with_cut_ranges : (c : Cut) (ms : List Change) → No (ranges (with_cut c ms)) → No (ranges ms)
with_cut_ranges c ms n =
    elim (has_cut c ms) as (λ b. No (ranges (cond b ms (inserted None c ms))) → No (ranges ms)) [
      | true ↦ λ h. h
      | false ↦ λ h. inserted_ranges c ms h
    ] n

-- where the range deletions alone are others
pub ranges_there : (top : Option Deletion) (ms ns : List Change) (es : Entries) → (No (ranges ns) → No (ranges ms)) → IsThere (atoms_with top ms es) → IsThere (atoms_with top ns es)
ranges_there top ms ns es h is = there_if (atoms_with top ms es) (atoms_with top ns es) (λ n.
    let (t, rest) = all_of (λ a. ⊥) (atom_of PartitionDeletion top) (ranges ns ++ said_at es) n in
    let (r, s) = all_of (λ a. ⊥) (ranges ns) (said_at es) rest in
    all_and (λ a. ⊥) (atom_of PartitionDeletion top) (ranges ms ++ said_at es) t (all_and (λ a. ⊥) (ranges ms) (said_at es) (h r) s)) is

-- ---- an atom joined

pub top_there : (top : Option Deletion) (d : Deletion) (rest : List Atom) → IsThere (atom_of PartitionDeletion (greater deletion_cmp top (Some d)) ++ rest)
top_there None d rest = tt
top_there (Some e) d rest = tt

-- at its low cut a range deletion is in force
lies_at : (lo hi c : Cut) → key_cmp (key_of lo) (key_of hi) ≡ Less → key_cmp (key_of lo) (key_of c) ≡ Equal → lies lo hi c ≡ true
lies_at lo hi c below same =
    (λ i. is_le (same i) && not (is_le ((key_total.antisymm (key_of hi) (key_of c) ∙ ap ordering_reverse (sym (key_total.congr (key_of lo) (key_of c) (key_of hi) same) ∙ below)) i)))

raised_speaks : (lo hi : Cut) (d : Deletion) → key_cmp (key_of lo) (key_of hi) ≡ Less → (ms : List Change) → has_cut lo ms ≡ true → Still (raised (lies lo hi) d ms) → ⊥
raised_speaks lo hi d below [] has s = true≢false (sym has)
raised_speaks lo hi d below (m ∷ ms) has s =
    elim (is_eq (key_cmp (key_of lo) (key_of m.at))) as (λ b. is_eq (key_cmp (key_of lo) (key_of m.at)) ≡ b → (b || has_cut lo ms) ≡ true → ⊥) [
      | true ↦ λ e _.
          let inside : lies lo hi m.at ≡ true = lies_at lo hi m.at below ((Equal-is (key_cmp (key_of lo) (key_of m.at))).0 e) in
          let none : greater deletion_cmp m.to (Some d) ≡ None = sym (ap (λ b. cond b (greater deletion_cmp m.to (Some d)) m.to) inside) ∙ s.0 in
          no_none d (sym ((greater_none_of deletion_cmp m.to (Some d) none).1))
      | false ↦ λ e h. raised_speaks lo hi d below ms h s.1
    ] refl has

pub raised_there : (top : Option Deletion) (lo hi : Cut) (d : Deletion) (ms : List Change) (es : Entries) → key_cmp (key_of lo) (key_of hi) ≡ Less → has_cut lo ms ≡ true
    → at_end None (raised (lies lo hi) d ms) ≡ None → IsThere (atoms_with top (raised (lies lo hi) d ms) es)
raised_there top lo hi d ms es below has closed =
    let ns : List Change = raised (lies lo hi) d ms in
    there_not (atoms_with top ns es) (λ n.
    let (t, rest) = all_of (λ a. ⊥) (atom_of PartitionDeletion top) (ranges ns ++ said_at es) n in
    let (r, s) = all_of (λ a. ⊥) (ranges ns) (said_at es) rest in
    raised_speaks lo hi d below ms has (ranges_still ns closed r))

pub piece_silent : (row : Option MapKey) (column : Option ℕ) (path : Option (List ℕ)) (c : Content) → No (own (piece row column path c)) → Silent (piece row column path c)
piece_silent None column path c n = static_silent _ n
piece_silent (Some k) column path c n = row_silent _ n

-- what is joined at a spot stays said
joined_speaks : (s : Spot) (c new : Content) → No (own (said s (joined_content c new))) → No (own (said s new))
joined_speaks s c new n =
    let both : Silent (said s (joined_content c new)) = piece_silent s.row s.column s.path (joined_content c new) n in
    silent_own (said s new) ((joined_from (said s c) (said s new) (twin_pieces s.row s.column s.path c new) (subst Silent (pieces_join s.row s.column s.path c new) both)).1)

set_speaks : (s : Spot) (c new : Content) (es : Entries) → lookup (is_at (spot_cmp s)) es ≡ Some c → No (said_at (set_value (is_at (spot_cmp s)) es (joined_content c new))) → No (own (said s new))
set_speaks s c new [] there n = absurd (none-some c there)
set_speaks s c new (e ∷ es) there n =
    elim (is_eq (spot_cmp s e.0)) as (λ b. is_eq (spot_cmp s e.0) ≡ b → cond b (Some e.1) (lookup (is_at (spot_cmp s)) es) ≡ Some c
    → No (said_at (cond b ((e.0, joined_content c new) ∷ es) (e ∷ set_value (is_at (spot_cmp s)) es (joined_content c new)))) → No (own (said s new))) [
      | true ↦ λ hit h k.
          let same : s ≡ e.0 = spot_ties s e.0 ((Equal-is (spot_cmp s e.0)).0 hit) in
          subst (λ t. No (own (said t new))) (sym same) (joined_speaks e.0 c new ((all_of (λ a. ⊥) (own (said e.0 (joined_content c new))) (said_at es) k).0))
      | false ↦ λ hit h k. set_speaks s c new es h ((all_of (λ a. ⊥) (own (said e.0 e.1)) (said_at (set_value (is_at (spot_cmp s)) es (joined_content c new))) k).1)
    ] refl there n

pub set_there : (top : Option Deletion) (ms : List Change) (s : Spot) (c new : Content) (es : Entries) → lookup (is_at (spot_cmp s)) es ≡ Some c → (a : Atom) → own (said s new) ≡ a ∷ []
    → IsThere (atoms_with top ms (set_value (is_at (spot_cmp s)) es (joined_content c new)))
set_there top ms s c new es there a e =
    let fs : Entries = set_value (is_at (spot_cmp s)) es (joined_content c new) in
    there_not (atoms_with top ms fs) (λ n.
    let (t, rest) = all_of (λ a. ⊥) (atom_of PartitionDeletion top) (ranges ms ++ said_at fs) n in
    let (r, w) = all_of (λ a. ⊥) (ranges ms) (said_at fs) rest in
    (subst No e (set_speaks s c new es there w)).0)
