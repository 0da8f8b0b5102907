-- Mutations without atoms take nothing: what holds of the records of all mutations holds of those with atoms alone.
use Rattle.std.proofs.Common.{◌≡◌, ℕ, ◌+◌, ◌≤◌, ◌<◌, ◌-◌, ◌^◌, Bool, true, false, cond, List, [], ◌∷◌, ◌++◌, map, refl, sym, ap, ◌∙◌, subst, arith}
use Rattle.std.proofs.lemmas.List.Sums.{sum_by-cons}
use Rattle.std.specs.List.{sum_by}
use Rattle.std.specs.List.Sorted.{IsStrictlySortedBy}
use Rattle.cas_types.specs.Values.{bytes_cmp}
use Rattle.cas_atoms.specs.Coordinates.{same_bytes}
use Rattle.cas_atoms.specs.LogLength.{atom_length, record_length}
use Rattle.cas_atoms.specs.declared.atom.Atom.{Atom}
use Rattle.cas_atoms.specs.declared.atom.Mutation.{Mutation}
use Rattle.cas_memtable.specs.Kept.{atoms_at, atoms_under, bytes_of}
use Rattle.cas_memtable.specs.Memtables.{added}
use Rattle.cas_streams.specs.Streams.{IsThere}
use Rattle.cas_tables.specs.Contents.{Partition}
use Rattle.cas_sizes.proofs.Keys.{AllThere, share, shares_small, under, under_small}

-- a mutation, if it has these atoms
abbrev having : List Atom → Mutation → List Mutation
having [] w = []
having (a ∷ those) w = w ∷ []

-- those with atoms
abbrev kept : List Mutation → List Mutation
kept [] = []
kept (w ∷ ws) = having w.atoms w ++ kept ws

-- they say the same
none_at : (b : Bool) (those : List Atom) → those ≡ [] → cond b those [] ≡ []
none_at true those is = is
none_at false those is = refl

one_kept : (key : List ℕ) (w : Mutation) (those : List Atom) → w.atoms ≡ those → (ws vs : List Mutation) → atoms_under key ws ≡ atoms_under key vs
    → atoms_under key (having those w ++ ws) ≡ atoms_under key (w ∷ vs)
one_kept key w [] is ws vs same = same ∙ ap (λ (l : List Atom). l ++ atoms_under key vs) (sym (none_at (same_bytes w.key key) w.atoms is))
one_kept key w (a ∷ those) is ws vs same = ap (λ (l : List Atom). atoms_at key w ++ l) same

same_kept : (key : List ℕ) (ws : List Mutation) → atoms_under key (kept ws) ≡ atoms_under key ws
same_kept key [] = refl
same_kept key (w ∷ ws) = one_kept key w w.atoms refl (kept ws) ws (same_kept key ws)

-- their records are what a memtable counts, those long those it can
counted : (bytes : ℕ) (ws : List Mutation) → bytes_of bytes ws < 2 ^ 64 - 1 → bytes + sum_by record_length (kept ws) ≤ bytes_of bytes ws
counted bytes [] few = omega arith
counted bytes (w ∷ ws) few = by w.atoms few (λ (now : ℕ). counted now ws)
  where
    by : (those : List Atom) → bytes_of (added bytes those (record_length w)) ws < 2 ^ 64 - 1
        → ((now : ℕ) → bytes_of now ws < 2 ^ 64 - 1 → now + sum_by record_length (kept ws) ≤ bytes_of now ws)
        → bytes + sum_by record_length (having those w ++ kept ws) ≤ bytes_of (added bytes those (record_length w)) ws
    by [] few rest = rest bytes few
    by (a ∷ those) few rest = omega (arith, few, rest (added bytes (a ∷ those) (record_length w)) few, sum_by-cons record_length w (kept ws))

few_bytes : (ws : List Mutation) → bytes_of 0 ws ≤ 2 ^ 28 → sum_by record_length (kept ws) ≤ 2 ^ 28
few_bytes ws few = omega (arith, few, counted 0 ws (omega (arith, few)))

pub under_little : (key : List ℕ) (ws : List Mutation) → bytes_of 0 ws ≤ 2 ^ 28 → under ws key ≤ 2 ^ 28
under_little key ws few =
    let same : under (kept ws) key ≡ under ws key = ap (sum_by atom_length) (same_kept key ws) in
    omega (arith, same, under_small key (kept ws), few_bytes ws few)

same_shares : (ws : List Mutation) (ps : List Partition) → sum_by (share (kept ws)) ps ≡ sum_by (share ws) ps
same_shares ws [] = refl
same_shares ws (p ∷ ps) =
    let same : under (kept ws) p.key ≡ under ws p.key = ap (sum_by atom_length) (same_kept p.key ws) in
    omega (arith, same, sum_by-cons (share (kept ws)) p ps, sum_by-cons (share ws) p ps, same_shares ws ps)

all_kept : (ws : List Mutation) (ps : List Partition) → AllThere ws ps → AllThere (kept ws) ps
all_kept ws [] there = tt
all_kept ws (p ∷ ps) there = (subst IsThere (sym (same_kept p.key ws)) there.0, all_kept ws ps there.1)

pub shares_little : (ps : List Partition) (ws : List Mutation) → IsStrictlySortedBy bytes_cmp (map (λ p. p.key) ps) → AllThere ws ps → bytes_of 0 ws ≤ 2 ^ 28
    → sum_by (share ws) ps ≤ 2 ^ 28
shares_little ps ws ascend there few =
    omega (arith, same_shares ws ps, shares_small ps (kept ws) ascend (all_kept ws ps there), few_bytes ws few)
