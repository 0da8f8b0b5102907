-- How what is passed over goes with what is read.
use Rattle.std.proofs.Common.{◌≡◌, ℕ, suc, ◌+◌, ◌-◌, ◌<◌, ◌≤◌, Option, Some, List, ◌∷◌, Ok, Err, refl, sym, ap, ◌∙◌, arith}
use Rattle.cas_codec.specs.declared.fault.ReadFault.{ReadFault}
use Rattle.cas_codec.specs.Reading.{Left, Read, ◌>>=◌}
use Rattle.cas_codec.proofs.Exactness.{ok_is}
use Rattle.cas_fragments.specs.Reading.{chain_at}
use Rattle.cas_skips.specs.Told.{told, passed}

abbrev fault_of : {A : Type 0} → ReadFault → Read A
fault_of f = Err f

abbrev pub read_ok : {A : Type 0} → A → Left → Read A
read_ok x left = Ok (x, left)

same_value : {A : Type 0} (x y : A) (l m : Left) → read_ok x l ≡ read_ok y m → x ≡ y
same_value x y l m e = ap (λ (p : _). p.0) (ok_is (x, l) (y, m) e)

same_left : {A : Type 0} (x y : A) (l m : Left) → read_ok x l ≡ read_ok y m → l ≡ m
same_left x y l m e = ap (λ (p : _). p.1) (ok_is (x, l) (y, m) e)

-- what was told was read
pub told_ok : {A B : Type 0} (f : A → B) (read : Read A) (b : B) (new : Left) → told f read ≡ Ok (b, new) → (a : A) × (read ≡ Ok (a, new)) × (f a ≡ b)
told_ok f (Ok x) b new e = (x.0, ap (λ (l : Left). read_ok x.0 l) (same_left (f x.0) b x.1 new e), same_value (f x.0) b x.1 new e)
told_ok f (Err g) b new e = absurd cc

pub told_err : {A B : Type 0} (f : A → B) (read : Read A) (g : ReadFault) → told f read ≡ Err g → read ≡ Err g
told_err f (Ok x) g e = absurd cc
told_err {A} f (Err h) g e = ap (λ (d : ReadFault). fault_of {A = A} d) cc

passed_map : {A B : Type 0} (g : A → B) (read : Read A) → passed (read >>= λ x. Ok (g x.0, x.1)) ≡ passed read
passed_map g (Ok x) = refl
passed_map g (Err h) = refl

-- ---- items one after another

module _ {A K : Type 0} (key : A → K) (reading : Option K → Left → Read A) where
  chain_more : (m : ℕ) (before : Option K) (k : K) (left next : Left) → told key (reading before left) ≡ Ok (k, next)
      → passed (chain_at key reading (suc m) before left) ≡ passed (chain_at key reading m (Some k) next)
  unfolding chain_at
  chain_more m before k left next e =
      let (a, is, key_is) = told_ok key (reading before left) k next e in
      rw is (passed_map (λ (xs : List A). a ∷ xs) (chain_at key reading m (Some (key a)) next)
      ∙ ap (λ (j : K). passed (chain_at key reading m (Some j) next)) key_is)

  chain_bad : (m : ℕ) (before : Option K) (left : Left) (f : ReadFault) → told key (reading before left) ≡ Err f
      → passed (chain_at key reading (suc m) before left) ≡ Err f
  unfolding chain_at
  chain_bad m before left f e = rw (told_err key (reading before left) f e) refl

  chain_none : (before : Option K) (left : Left) → passed (chain_at key reading 0 before left) ≡ Ok (tt, left)
  unfolding chain_at
  chain_none before left = refl

  -- what a loop that has passed over i of n items knows
  abbrev pub HasPassed : ℕ → Read (Unit {0}) → ℕ → Option K → Left → Type 0
  HasPassed n whole i before left = passed (chain_at key reading (n - i) before left) ≡ whole

  pub loop_more : (n i : ℕ) (before : Option K) (k : K) (left next : Left) (whole : Read (Unit {0})) → i < n
      → told key (reading before left) ≡ Ok (k, next) → HasPassed n whole i before left → HasPassed n whole (i + 1) (Some k) next
  loop_more n i before k left next whole more e so_far =
      let rest : n - i ≡ suc (n - (i + 1)) = omega arith in
      sym (chain_more (n - (i + 1)) before k left next e) ∙ ap (λ m. passed (chain_at key reading m before left)) (sym rest) ∙ so_far

  pub loop_fault : (n i : ℕ) (before : Option K) (left : Left) (f : ReadFault) (whole : Read (Unit {0})) → i < n
      → told key (reading before left) ≡ Err f → HasPassed n whole i before left → whole ≡ Err f
  loop_fault n i before left f whole more e so_far =
      let rest : n - i ≡ suc (n - (i + 1)) = omega arith in
      sym so_far ∙ ap (λ m. passed (chain_at key reading m before left)) rest ∙ chain_bad (n - (i + 1)) before left f e

  pub loop_all : (n i : ℕ) (before : Option K) (left : Left) (whole : Read (Unit {0})) → n ≤ i → HasPassed n whole i before left → whole ≡ Ok (tt, left)
  loop_all n i before left whole through so_far =
      let none : n - i ≡ 0 = omega arith in
      sym so_far ∙ ap (λ m. passed (chain_at key reading m before left)) none ∙ chain_none before left
