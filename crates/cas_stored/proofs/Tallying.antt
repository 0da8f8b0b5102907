-- A read that failed is counted, whichever source it broke.
use Rattle.std.proofs.Common.{◌≡◌, ◌⊎◌, inl, inr, ◌≤◌, ◌<◌, ◌+◌, ◌-◌, ◌^◌, ℕ, zero, suc, Option, None, Some, Result, IfErr, IfSome, IsErrOf, refl, sym, ap, ◌∙◌, subst, arith}
use Rattle.std.specs.Prelude.{min}
use Rattle.std.specs.Option.{option_map}
use Rattle.std.proofs.lemmas.Grind.{not_there}
use Rattle.std.specs.declared.alloc.AllocError.{AllocError}
use Rattle.cas_blocks.specs.declared.fault.TableFault.{TableFault}
use Rattle.cas_blocks.specs.declared.fault.TableFault.TheVariants as table_fault
use Rattle.cas_disk.specs.Counts.{Counted, sum_in_range}
use Rattle.cas_io.specs.Causes.{Rose}
use Rattle.cas_stored.specs.declared.source.StoredSource.{StoredSource}
use Rattle.cas_stored.specs.declared.source.StoredSource.TheVariants.{Memory, File}
use Rattle.cas_stored.specs.Inner.Either.{fault_of, file_in}

-- ---- one source

never_read : (o : Option AllocError) → option_map (λ e. table_fault.Mem) o ≡ Some table_fault.Read → ⊥
never_read None e = cc
never_read (Some x) e = cc

-- which kind it is of
pub is_memory : {M F : Type 0} (s : StoredSource M F) → file_in s ≡ None → (m : M) × (s ≡ Memory m)
is_memory (Memory m) e = (m, refl)
is_memory (File f) e = absurd cc

pub is_file : {M F : Type 0} (s : StoredSource M F) (f : F) → file_in s ≡ Some f → s ≡ File f
is_file (Memory m) f e = absurd cc
is_file (File g) f e = ap File (some_is g f e)
  where
    some_is : {X : Type 0} (x y : X) → (let o : Option X = Some x in o) ≡ Some y → x ≡ y
    some_is x y same = cc

module _ {M F : Type 0} (memory : M → Option AllocError) (file : F → Option TableFault) (s : StoredSource M F) where
  -- in memory no read fails
  pub memory_counts : (m : M) (n : ℕ) → s ≡ Memory m → Counted n n (fault_of memory file s ≡ Some table_fault.Read)
  memory_counts m n is = record { kept = omega arith; rose = λ e. absurd (never_read (memory m) (sym (ap (fault_of memory file) is) ∙ e)) }

  -- what a file's source counted is added
  pub file_counts : (f : F) (old added new : ℕ) → s ≡ File f → old < 2 ^ 64 → new ≡ sum_in_range old added → (file f ≡ Some table_fault.Read → 1 ≤ added)
      → Counted old new (fault_of memory file s ≡ Some table_fault.Read)
  file_counts f old added new is few sum counts = record {
    kept = subst (λ n. old ≤ n) (sym sum) (omega arith);
    rose = λ e. let one : 1 ≤ added = counts (sym (ap (fault_of memory file) is) ∙ e) in subst (λ n. Rose old n) (sym sum) (omega (arith, one));
  }

-- ---- several

pub none_counts : (n : ℕ) → Counted n n ⊥
none_counts n = record { kept = omega arith; rose = λ e. absurd e }

pub both_count : (a b d : ℕ) (P Q : Type 0) → Counted a b P → Counted b d Q → Counted a d (P ⊎ Q)
both_count a b d P Q first second = record { kept = omega (arith, first.kept, second.kept); rose = by }
  where
    by : P ⊎ Q → Rose a d
    by (inl p) = omega (arith, first.rose p, second.kept)
    by (inr q) = omega (arith, first.kept, second.rose q)

-- ---- what is answered

le_or : (n m : ℕ) → (n ≤ m) ⊎ (m < n)
le_or zero m = inl (omega arith)
le_or (suc n) zero = inr (omega arith)
le_or (suc n) (suc m) = next (le_or n m)
  where
    next : (n ≤ m) ⊎ (m < n) → (suc n ≤ suc m) ⊎ (suc m < suc n)
    next (inl le) = inl (omega (arith, le))
    next (inr lt) = inr (omega (arith, lt))

stable : (n m : ℕ) → ((n ≤ m → ⊥) → ⊥) → n ≤ m
stable n m twice = by (le_or n m)
  where
    by : (n ≤ m) ⊎ (m < n) → n ≤ m
    by (inl le) = le
    by (inr lt) = absurd (twice (λ le. omega (arith, le, lt)))

-- after what was counted before, and of a fault that broke the merge, which one of its sources told
pub fault_counts : {A : Type 0} (r : Result A TableFault) (broken : Option TableFault) (IsTold : TableFault → Type 0) (a b d : ℕ) → a ≤ b → Counted b d (IsTold table_fault.Read)
    → IfErr r (λ e. (broken ≡ Some e) ⊎ (e ≡ table_fault.Mem)) → ∥ IfSome broken (λ e. IsTold e ⊎ (e ≡ table_fault.Mem)) ∥₁ → Counted a d (IsErrOf r table_fault.Read)
fault_counts r broken IsTold a b d before counts causes told = record {
  kept = omega (arith, before, counts.kept);
  rose = λ e. stable (min (a + 1) (2 ^ 64 - 1)) d (λ no. not_there told (λ known. no (risen (of_known (why e) known))));
}
  where
    -- it is the merge's
    why : IsErrOf r table_fault.Read → broken ≡ Some table_fault.Read
    why e = by (subst (λ x. IfErr x (λ f. (broken ≡ Some f) ⊎ (f ≡ table_fault.Mem))) e causes)
      where
        by : (broken ≡ Some table_fault.Read) ⊎ (table_fault.Read ≡ table_fault.Mem) → broken ≡ Some table_fault.Read
        by (inl is) = is
        by (inr is) = cc

    of_known : broken ≡ Some table_fault.Read → IfSome broken (λ e. IsTold e ⊎ (e ≡ table_fault.Mem)) → IsTold table_fault.Read
    of_known is known = by (subst (λ o. IfSome o (λ e. IsTold e ⊎ (e ≡ table_fault.Mem))) is known)
      where
        by : IsTold table_fault.Read ⊎ (table_fault.Read ≡ table_fault.Mem) → IsTold table_fault.Read
        by (inl told) = told
        by (inr same) = cc

    risen : IsTold table_fault.Read → Rose a d
    risen told = omega (arith, before, counts.rose told)
