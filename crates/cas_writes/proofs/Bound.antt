-- A write that isn't refused is within the limits, and is one that its table can take.
use Rattle.std.proofs.Common.{◌≡◌, ℕ, ℤ, ◌%◌, ◌≤◌, ◌<◌, ◌≤ℤ◌, ◌&&◌, not, int_le, Bool, true, false, Option, None, Some, Result, Ok, Err, IfOk, IfSome, refl, sym, subst, T, arith}
use Rattle.std.specs.Int.Signed.{le_z_yes}
use Rattle.std.proofs.lemmas.Nat.{mod_below}
use Rattle.cas_types.specs.Limits.{IsNarrow, IsShardCount}
use Rattle.cas_types.specs.declared.limits.TheConstants.{LEAST_TIMESTAMP, GREATEST_TIMESTAMP}
use Rattle.cas_types.specs.declared.schema.TableSchema.{TableSchema}
use Rattle.cas_define.specs.IsTable.{IsTable}
use Rattle.cas_define.specs.Outcomes.{Binds}
use Rattle.cas_effects.specs.FitsBound.{FitsBound}
use Rattle.cas_effects.specs.Refusals.{refusal_for}
use Rattle.cas_effects.specs.TooLarge.{write_too_large}
use Rattle.cas_effects.specs.declared.effect.BoundWrite.{BoundWrite}
use Rattle.cas_effects.specs.declared.refusal.BindFault.{BindFault}
use Rattle.cql_parse.specs.declared.syntax.Statement.{Statement}
use Rattle.cas_reasons.specs.RowFaults.{is_outside}
use Rattle.cas_reasons.specs.RowReasons.{row_reasons}
use Rattle.cas_reasons.specs.Statements.{uses_of, timestamp_in}
use Rattle.cas_writes.specs.ChangeMeaning.{IsWriteWithin, change_means}
use Rattle.cas_writes.specs.Changes.{bound_change}
use Rattle.cas_writes.proofs.FitWrites.{write_fits}
use Rattle.cas_writes.proofs.ReasonOrder.{options_good}
use Rattle.cas_writes.proofs.RowLemmas.{change_comes}

first_holds : (b c : Bool) → not (b && c) ≡ false → b ≡ true
first_holds true c e = refl
first_holds false c e = cc

in_range : (at : Option ℤ) → is_outside LEAST_TIMESTAMP GREATEST_TIMESTAMP at ≡ false → IfSome at (λ n. LEAST_TIMESTAMP ≤ℤ n)
unfolding is_outside
in_range None e = tt
in_range (Some n) e = le_z_yes (subst T (sym (first_holds (int_le LEAST_TIMESTAMP n) (int_le n GREATEST_TIMESTAMP) e)) tt)

pub below : (shards n : ℕ) → IsShardCount shards → n % shards < shards
below shards n are = let some : 1 ≤ shards = are.0 in mod_below n shards (omega arith)

module _ (shards : ℕ) (t : TableSchema) (s : Statement) (are : IsShardCount shards) where
  within : (w : BoundWrite) → change_means shards t s ≡ Ok w → IsWriteWithin shards w
  unfolding bound_change row_reasons
  within w e =
      let is : (refusal_for (row_reasons t (write_too_large (bound_change shards t s)) s) ≡ None) × (bound_change shards t s ≡ w) = change_comes shards t s w e in
      subst (IsWriteWithin shards) is.1 (below shards _ are, in_range (timestamp_in (uses_of s)) (options_good (row_reasons t (write_too_large (bound_change shards t s)) s) is.0))

  fits : (w : BoundWrite) → IsNarrow t.columns → change_means shards t s ≡ Ok w → IsTable t → FitsBound t shards w
  fits w narrow e is = let comes = change_comes shards t s w e in subst (FitsBound t shards) comes.1 (write_fits t narrow is shards s are comes.0)

  pub change_within : (result : Result BoundWrite BindFault) → Binds result (change_means shards t s) → IfOk result (λ w. IsWriteWithin shards w)
  change_within (Ok w) e = within w e
  change_within (Err f) e = tt

  pub change_fits : (result : Result BoundWrite BindFault) → IsNarrow t.columns → Binds result (change_means shards t s) → IfOk result (λ w. IsTable t → FitsBound t shards w)
  change_fits (Ok w) narrow e = fits w narrow e
  change_fits (Err f) narrow e = tt
