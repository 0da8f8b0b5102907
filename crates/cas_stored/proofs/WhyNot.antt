-- Why a slice of a partition isn't shown, of the files that are read.
use Rattle.std.proofs.Common.{◌≡◌, ◌⊎◌, inl, inr, ℕ, true, Option, Some, Result, Ok, Err, IfErr, IfSome, List, [], ◌∷◌, refl, subst}
use Rattle.std.proofs.Math.Logic.{∥∥₁_elim, ∥∥₁_prop}
use Rattle.std.proofs.lemmas.Grind.{merely}
use Rattle.cas_bounds.specs.declared.cuts.Slice.{Slice}
use Rattle.cas_blocks.specs.declared.fault.TableFault.{TableFault}
use Rattle.cas_blocks.specs.declared.fault.TableFault.TheVariants as table_fault
use Rattle.cas_streams.proofs.Winning.{all_have}
use Rattle.cas_sstread.specs.Loading.{Held}
use Rattle.cas_view.specs.Views.{File, may_hold}
use Rattle.cas_stored.specs.Reading.{AreReadIn, IsReadIn, IsBadIn, IsBadFor, IsBadFile, IsFaultOf, IsWhyNot}
use Rattle.cas_reading.specs.Inner.Parts.{IsBadSlice}

module _ (key : List ℕ) (s : Slice) (n at : ℕ) where
  -- behind the head of a partition a block is bad
  pub bad_behind : (f : File Held) (t : Held) → IsReadIn s f → t ≡ f.table → may_hold f.info key ≡ true → IsBadSlice t key s n at → IsBadFile (f ∷ []) key s n at
  bad_behind f t reads same held bad =
      let b : IsBadSlice f.table key s n at = subst (λ (u : Held). IsBadSlice u key s n at) same bad in
      (f, inl refl, record { reads = reads; entry = b.0; range = held; told = b.1; bad = inr b.2 })

  -- its head is
  pub bad_head : (f : File Held) → IsReadIn s f → IsBadIn key n at f → IsBadFor key s n at f
  bad_head f reads bad = record { reads = reads; entry = bad.entry; range = bad.range; told = bad.told; bad = inl bad.bad }

module _ (told : ℕ → ℕ → Type 0) where
  -- where sources aren't given
  pub not_given : (fs : List (File Held)) (key : List ℕ) (s : Slice) (fault : TableFault) → AreReadIn s fs → ((n at : ℕ) → IsBadFile fs key s n at → told n at) → IsWhyNot fs key fault
      → IsFaultOf (λ n at. ∥ told n at ∥₁) fault
  not_given fs key s table_fault.Read reads tells why = tt
  not_given fs key s (table_fault.BadBlock n at) reads tells why =
      merely (tells n at (why.0, why.1, bad_head key s n at why.0 (all_have (IsReadIn s) fs why.0 reads why.1) why.2))
  not_given fs key s table_fault.Mem reads tells why = tt

  -- where their merge is broken
  pub not_merged : {A : Type 0} (r : Result A TableFault) (broken : Option TableFault) (IsTold : TableFault → Type 0) → ((n at : ℕ) → IsTold (table_fault.BadBlock n at) → ∥ told n at ∥₁)
      → IfErr r (λ e. (broken ≡ Some e) ⊎ (e ≡ table_fault.Mem)) → ∥ IfSome broken (λ e. IsTold e ⊎ (e ≡ table_fault.Mem)) ∥₁ → IfErr r (IsFaultOf (λ n at. ∥ told n at ∥₁))
  not_merged (Ok x) broken IsTold found causes known = tt
  not_merged (Err table_fault.Read) broken IsTold found causes known = tt
  not_merged (Err table_fault.Mem) broken IsTold found causes known = tt
  not_merged (Err (table_fault.BadBlock n at)) broken IsTold found (inr same) known = absurd cc
  not_merged (Err (table_fault.BadBlock n at)) broken IsTold found (inl is) known = ∥∥₁_elim known ∥∥₁_prop (λ k. by (subst (λ (o : Option TableFault). IfSome o (λ e. IsTold e ⊎ (e ≡ table_fault.Mem))) is k))
    where
      by : IsTold (table_fault.BadBlock n at) ⊎ (table_fault.BadBlock n at ≡ table_fault.Mem) → ∥ told n at ∥₁
      by (inl t) = found n at t
      by (inr same) = absurd cc
