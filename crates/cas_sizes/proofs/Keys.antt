-- Mutations by their keys: what they say under different keys comes to no more than they.
use Rattle.std.proofs.Common.{◌≡◌, ℕ, ◌+◌, ◌≤◌, Bool, true, false, cond, List, [], ◌∷◌, ◌++◌, length, map, refl, sym, ap, ◌∙◌, subst, arith}
use Rattle.std.proofs.lemmas.List.Sums.{sum_by-cons, sum_by-append}
use Rattle.std.specs.List.{AllByRecursion, sum_by}
use Rattle.std.specs.List.Sorted.{IsStrictlySortedBy}
use Rattle.std.specs.Ordering.{is_eq}
use Rattle.std.specs.declared.cmp.Ordering.TheVariants.{Less}
use Rattle.cas_types.specs.Values.{bytes_cmp}
use Rattle.cas_types.specs.declared.schema.Column.{Column}
use Rattle.cas_atoms.specs.Coordinates.{same_bytes}
use Rattle.cas_atoms.specs.LogLength.{atom_length, record_length}
use Rattle.cas_atoms.specs.declared.atom.Atom.{Atom}
use Rattle.cas_atoms.specs.declared.atom.Mutation.{Mutation}
use Rattle.cas_laws.proofs.ShownProofs.{equal_bytes}
use Rattle.cas_memtable.specs.Kept.{MayHold, atoms_at, atoms_under}
use Rattle.cas_partition.specs.Partitions.{AllFit}
use Rattle.cas_streams.specs.Merged.{flat_of}
use Rattle.cas_streams.specs.NoMore.{SaysNoMore}
use Rattle.cas_streams.specs.Streams.{IsThere}
use Rattle.cas_streams.proofs.Weaves.{all_and}
use Rattle.cas_tables.specs.Contents.{Partition}
use Rattle.cas_tables.specs.Fitting.{FitsPartition}
use Rattle.cas_sizes.specs.Laws.{PartitionsAreFew}
use Rattle.cas_sizes.proofs.Answered.{all_answered}

-- ---- mutations of other keys

abbrev without : List ℕ → List Mutation → List Mutation
without k [] = []
without k (w ∷ ws) = cond (same_bytes w.key k) (without k ws) (w ∷ without k ws)

-- under another key they write the same
same_under : (k q : List ℕ) (ws : List Mutation) → same_bytes k q ≡ false → atoms_under q (without k ws) ≡ atoms_under q ws
same_under k q [] other = refl
same_under k q (w ∷ ws) other = by (same_bytes w.key k) refl (same_under k q ws other)
  where
    by : (b : Bool) → same_bytes w.key k ≡ b → atoms_under q (without k ws) ≡ atoms_under q ws
        → atoms_under q (cond b (without k ws) (w ∷ without k ws)) ≡ atoms_at q w ++ atoms_under q ws
    by true is rest =
        let none : same_bytes w.key q ≡ false = ap (λ (l : List ℕ). same_bytes l q) (equal_bytes w.key k is) ∙ other in
        rest ∙ ap (λ (b : Bool). cond b w.atoms [] ++ atoms_under q ws) (sym none)
    by false is rest = ap (λ (l : List Atom). atoms_at q w ++ l) rest

-- ---- lengths

-- how long the atoms under a key are
abbrev pub under : List Mutation → List ℕ → ℕ
under ws key = sum_by atom_length (atoms_under key ws)

parted : (k : List ℕ) (ws : List Mutation) → under ws k + sum_by record_length (without k ws) ≤ sum_by record_length ws
parted k [] = omega arith
parted k (w ∷ ws) = by (same_bytes w.key k) (parted k ws)
  where
    by : (b : Bool) → under ws k + sum_by record_length (without k ws) ≤ sum_by record_length ws
        → sum_by atom_length (cond b w.atoms [] ++ atoms_under k ws) + sum_by record_length (cond b (without k ws) (w ∷ without k ws))
        ≤ sum_by record_length (w ∷ ws)
    by true rest = omega (arith, rest, sum_by-append atom_length w.atoms (atoms_under k ws), sum_by-cons record_length w ws)
    by false rest = omega (arith, rest, sum_by-cons record_length w (without k ws), sum_by-cons record_length w ws)

-- and where something was written under the key, its length and that of a record's head
parted_there : (k : List ℕ) (ws : List Mutation) → IsThere (atoms_under k ws)
    → 38 + length k + under ws k + sum_by record_length (without k ws) ≤ sum_by record_length ws
parted_there k [] there = absurd there
parted_there k (w ∷ ws) there = by (same_bytes w.key k) refl (parted k ws) (λ t. parted_there k ws t) there
  where
    by : (b : Bool) → same_bytes w.key k ≡ b → under ws k + sum_by record_length (without k ws) ≤ sum_by record_length ws
        → (IsThere (atoms_under k ws) → 38 + length k + under ws k + sum_by record_length (without k ws) ≤ sum_by record_length ws)
        → IsThere (cond b w.atoms [] ++ atoms_under k ws)
        → 38 + length k + sum_by atom_length (cond b w.atoms [] ++ atoms_under k ws) + sum_by record_length (cond b (without k ws) (w ∷ without k ws))
        ≤ sum_by record_length (w ∷ ws)
    by true is rest more there =
        let long : length w.key ≡ length k = ap length (equal_bytes w.key k is) in
        omega (arith, rest, long, sum_by-append atom_length w.atoms (atoms_under k ws), sum_by-cons record_length w ws)
    by false is rest more there = omega (arith, more there, sum_by-cons record_length w (without k ws), sum_by-cons record_length w ws)

pub under_small : (k : List ℕ) (ws : List Mutation) → under ws k ≤ sum_by record_length ws
under_small k ws = omega (arith, parted k ws)

no_longer : (k : List ℕ) (ws : List Mutation) → length (without k ws) ≤ length ws
no_longer k [] = omega arith
no_longer k (w ∷ ws) = by (same_bytes w.key k) (no_longer k ws)
  where
    by : (b : Bool) → length (without k ws) ≤ length ws → length (cond b (without k ws) (w ∷ without k ws)) ≤ length (w ∷ ws)
    by true le = omega (arith, le)
    by false le = omega (arith, le)

-- where something was written under the key there are fewer
shorter : (k : List ℕ) (ws : List Mutation) → IsThere (atoms_under k ws) → length (without k ws) + 1 ≤ length ws
shorter k [] there = absurd there
shorter k (w ∷ ws) there = by (λ t. shorter k ws t) (same_bytes w.key k) there
  where
    by : (IsThere (atoms_under k ws) → length (without k ws) + 1 ≤ length ws) → (b : Bool) → IsThere (cond b w.atoms [] ++ atoms_under k ws)
        → length (cond b (without k ws) (w ∷ without k ws)) + 1 ≤ length (w ∷ ws)
    by rest true there = let le = no_longer k ws in omega (arith, le)
    by rest false there = let le = rest there in omega (arith, le)

-- ---- keys

abbrev pub AllThere : List Mutation → List Partition → Type 0
AllThere ws ps = AllByRecursion (λ p. IsThere (atoms_under p.key ws)) ps

-- the keys stand above one
abbrev Above : List ℕ → List Partition → Type 0
Above k ps = AllByRecursion (λ q. bytes_cmp k q ≡ Less) (map (λ p. p.key) ps)

all_still : (k : List ℕ) (ps : List Partition) (ws : List Mutation) → Above k ps → AllThere ws ps → AllThere (without k ws) ps
all_still k [] ws above there = tt
all_still k (p ∷ ps) ws above there =
    (subst IsThere (sym (same_under k p.key ws (ap is_eq above.0))) there.0, all_still k ps ws above.1 there.1)

-- the key of a partition, what is said under it, and the head of a record
abbrev pub share : List Mutation → Partition → ℕ
share ws p = 38 + length p.key + under ws p.key

still_sum : (k : List ℕ) (ps : List Partition) (ws : List Mutation) → Above k ps → sum_by (share (without k ws)) ps ≡ sum_by (share ws) ps
still_sum k [] ws above = refl
still_sum k (p ∷ ps) ws above =
    let same : under (without k ws) p.key ≡ under ws p.key = ap (sum_by atom_length) (same_under k p.key ws (ap is_eq above.0)) in
    omega (arith, same, sum_by-cons (share (without k ws)) p ps, sum_by-cons (share ws) p ps, still_sum k ps ws above.1)

pub shares_small : (ps : List Partition) (ws : List Mutation) → IsStrictlySortedBy bytes_cmp (map (λ p. p.key) ps) → AllThere ws ps
    → sum_by (share ws) ps ≤ sum_by record_length ws
unfolding IsStrictlySortedBy
shares_small [] ws ascend there = omega arith
shares_small (p ∷ ps) ws ascend there =
    omega (
      arith,
      shares_small ps (without p.key ws) ascend.1 (all_still p.key ps ws ascend.0 there.1),
      still_sum p.key ps ws ascend.0,
      parted_there p.key ws there.0,
      sum_by-cons (share ws) p ps,
    )

few_keys : (ps : List Partition) (ws : List Mutation) → IsStrictlySortedBy bytes_cmp (map (λ p. p.key) ps) → AllThere ws ps → length ps ≤ length ws
unfolding IsStrictlySortedBy
few_keys [] ws ascend there = omega arith
few_keys (p ∷ ps) ws ascend there =
    let rest : length ps ≤ length (without p.key ws) = few_keys ps (without p.key ws) ascend.1 (all_still p.key ps ws ascend.0 there.1) in
    let one : length (without p.key ws) + 1 ≤ length ws = shorter p.key ws there.0 in
    omega (arith, rest, one)

-- ---- partitions

written : (A B : List Atom) → IsThere A → SaysNoMore A B → IsThere B
written [] B there none = absurd there
written (a ∷ A) [] there none = absurd (all_answered [] (a ∷ A) none).0.has
written (a ∷ A) (b ∷ B) there none = tt

pub all_written : (columns : List Column) (ws : List Mutation) (ps : List Partition) → AllByRecursion (FitsPartition columns) ps
    → AllByRecursion (λ p. SaysNoMore (flat_of p.stream) (atoms_under p.key ws)) ps → AllThere ws ps
all_written columns ws [] fit says = tt
all_written columns ws (p ∷ ps) fit says =
    (written (flat_of p.stream) (atoms_under p.key ws) fit.0.said says.0, all_written columns ws ps fit.1 says.1)

pub partitions_are_few : PartitionsAreFew
partitions_are_few columns ws ps say = few_keys ps ws say.ascend (all_written columns ws ps say.each say.no_more)

-- what is written under a key the table may hold
pub atoms_fit : (columns : List Column) (key : List ℕ) (ws : List Mutation) → AllByRecursion (MayHold columns) ws → AllFit columns (atoms_under key ws)
atoms_fit columns key [] may = tt
atoms_fit columns key (w ∷ ws) may = by (same_bytes w.key key) (atoms_fit columns key ws may.1)
  where
    by : (b : Bool) → AllFit columns (atoms_under key ws) → AllFit columns (cond b w.atoms [] ++ atoms_under key ws)
    by true rest = all_and _ w.atoms (atoms_under key ws) may.0.1 rest
    by false rest = rest
