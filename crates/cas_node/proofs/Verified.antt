-- What is said of table files that were read to their end, and which file is blamed then.
use Rattle.std.proofs.Common.{◌≡◌, inl, inr, ℕ, List, [], ◌∷◌, ◌++◌, flat_map, Option, None, Some, refl, sym, ap, subst}
use Rattle.std.specs.Prelude.{◌⊎◌}
use Rattle.std.specs.List.{range_with_len}
use Rattle.std.proofs.lemmas.List.Concat.{flat_map-cons}
use Rattle.cas_disk.specs.declared.name.Name.{Name}
use Rattle.cas_disk.specs.declared.name.Name.TheVariants as file
use Rattle.cas_laws.specs.Given.{Has}
use Rattle.cas_render.specs.declared.reply.Verdict.{Verdict}
use Rattle.cas_sstread.specs.Loading.{Held}
use Rattle.cas_view.specs.Views.{File}
use Rattle.cas_node.specs.declared.cause.Cause.{Cause}
use Rattle.cas_sessions.specs.Verifying.{AreVerdicts, IsFoundSo, table_files}
use Rattle.cas_node.specs.Ran.{IfBad, verdict_cause, verdicts_cause}

-- ---- a file of some shard

has_either : {X : Type 0} (xs ys : List X) (x : X) → Has (xs ++ ys) x → Has xs x ⊎ Has ys x
has_either [] ys x has = inr has
has_either (z ∷ xs) ys x (inl same) = inl (inl same)
has_either (z ∷ xs) ys x (inr more) = next (has_either xs ys x more)
  where
    next : Has xs x ⊎ Has ys x → Has (z ∷ xs) x ⊎ Has ys x
    next (inl front) = inl (inr front)
    next (inr behind) = inr behind

has_some : {X : Type 0} (at : ℕ → List X) (ns : List ℕ) (x : X) → Has (flat_map at ns) x → (n : ℕ) × Has (at n) x
has_some at [] x has = absurd has
has_some at (n ∷ ns) x has = by (has_either (at n) (flat_map at ns) x (subst (λ xs. Has xs x) (flat_map-cons at n ns) has)) (λ other. has_some at ns x other)
  where
    by : Has (at n) x ⊎ Has (flat_map at ns) x → (Has (flat_map at ns) x → (m : ℕ) × Has (at m) x) → (m : ℕ) × Has (at m) x
    by (inl here) next = (n, here)
    by (inr other) next = next other

pub in_some_shard : (files : ℕ → ℕ → List (File Held)) (shards table : ℕ) (f : File Held) → Has (table_files files shards table) f
    → (n : ℕ) × Has (files n table) f
in_some_shard files shards table f has = has_some (λ n. files n table) (range_with_len 0 shards) f has

-- ---- a bad one

module _ (P : Name → ℕ → Type 0) where
  first_bad : (number : ℕ) (bad : Option ℕ) (others : Cause) → ((at : ℕ) → bad ≡ Some at → P (file.Table number) at) → IfBad others P
      → IfBad (verdict_cause number bad others) P
  first_bad number None others is rest = rest
  first_bad number (Some at) others is rest = is at refl

  -- what is blamed was found bad
  pub found_bad : (fs : List (File Held)) (vs : List Verdict)
      → ((f : File Held) (number at : ℕ) → Has fs f → f.info.number ≡ number → IsFoundSo f.table (Some at) → P (file.Table number) at)
      → AreVerdicts fs vs → IfBad (verdicts_cause vs) P
  found_bad [] [] blames are = tt
  found_bad [] (v ∷ vs) blames are = absurd are
  found_bad (f ∷ fs) [] blames are = absurd are
  found_bad (f ∷ fs) (v ∷ vs) blames are =
      first_bad v.number v.bad (verdicts_cause vs)
      (λ at is. blames f v.number at (inl refl) (sym are.0.0) (subst (λ b. IsFoundSo f.table b) is are.0.1))
      (found_bad fs vs (λ g number at has. blames g number at (inr has)) are.1)

-- ---- where none is bad

abbrev pub told_of : ℕ → Option ℕ → Verdict
told_of number bad = record { number = number; bad = bad }

-- each file is good
abbrev pub all_good : List (File Held) → List Verdict
all_good [] = []
all_good (f ∷ fs) = told_of f.info.number None ∷ all_good fs

one_good : (f : File Held) (number : ℕ) (bad : Option ℕ) → number ≡ f.info.number → IsFoundSo f.table bad → ((at : ℕ) → IsFoundSo f.table (Some at) → ⊥)
    → told_of number bad ≡ told_of f.info.number None
one_good f number None same found none = ap (λ k. told_of k None) same
one_good f number (Some at) same found none = absurd (none at found)

pub are_good : (fs : List (File Held)) (vs : List Verdict)
    → ((f : File Held) (number at : ℕ) → Has fs f → f.info.number ≡ number → IsFoundSo f.table (Some at) → ⊥) → AreVerdicts fs vs → vs ≡ all_good fs
are_good [] [] none are = refl
are_good [] (v ∷ vs) none are = absurd are
are_good (f ∷ fs) [] none are = absurd are
are_good (f ∷ fs) (v ∷ vs) none are =
    let first : told_of v.number v.bad ≡ told_of f.info.number None =
    one_good f v.number v.bad are.0.0 are.0.1 (λ at found. none f f.info.number at (inl refl) refl found) in
    let rest : vs ≡ all_good fs = are_good fs vs (λ g number at has. none g number at (inr has)) are.1 in
    λ i. first i ∷ rest i
