-- What the reasons tell of an INSERT, UPDATE or DELETE, whose bound form decides the last of them.
use Rattle.std.proofs.Common.{◌≡◌, ℕ, pos, false, Option, None, Some, Ok, Err, ap, ◌∙◌}
use Rattle.cas_types.specs.declared.limits.TheConstants.{LEAST_TIMESTAMP, GREATEST_TIMESTAMP, TTL_LIMIT}
use Rattle.cas_types.specs.declared.schema.TableSchema.{TableSchema}
use Rattle.cas_define.specs.Outcomes.{outcome}
use Rattle.cas_effects.specs.Refusals.{refusal_for}
use Rattle.cas_effects.specs.TooLarge.{write_too_large}
use Rattle.cas_effects.specs.declared.effect.BoundWrite.{BoundWrite}
use Rattle.cas_effects.specs.declared.refusal.BindFault.{BindFault}
use Rattle.cas_effects.specs.declared.refusal.BindFault.TheVariants as fault
use Rattle.cas_effects.specs.declared.refusal.Refusal.{Refusal}
use Rattle.cas_keys.specs.KeyTerms.{partition_key}
use Rattle.cas_keys.specs.Inner.Sources.{KeyGives}
use Rattle.cql_parse.specs.declared.syntax.Statement.{Statement}
use Rattle.cas_reasons.specs.RowFaults.{is_outside}
use Rattle.cas_reasons.specs.RowReasons.{row_reasons}
use Rattle.cas_reasons.specs.Statements.{key_terms_of, uses_of, timestamp_in, ttl_in}
use Rattle.cas_writes.specs.ChangeMeaning.{change_means}
use Rattle.cas_writes.specs.Changes.{bound_change}
use Rattle.cas_writes.specs.Inner.Gives.{WriteGives}
use Rattle.cas_writes.proofs.ReasonOrder.{rows_late, options_good, lives_well, refused_early, decided_late, done}

-- where no reason is told, the numbers after USING are in their ranges
pub rows_good : (t : TableSchema) (s : Statement) → refusal_for (row_reasons t None s) ≡ None
    → (is_outside LEAST_TIMESTAMP GREATEST_TIMESTAMP (timestamp_in (uses_of s)) ≡ false) × (is_outside (pos 0) (pos TTL_LIMIT) (ttl_in (uses_of s)) ≡ false)
unfolding row_reasons
rows_good t s e = (options_good (row_reasons t None s) e, lives_well (row_reasons t None s) e)

module _ (shards : ℕ) (t : TableSchema) where
  pub change_refused : (s : Statement) (r : Refusal) → refusal_for (row_reasons t None s) ≡ Some r → change_means shards t s ≡ Err r
  unfolding change_means
  change_refused s r e = ap (λ o. outcome o (bound_change shards t s)) (rows_late t (write_too_large (bound_change shards t s)) s) ∙ refused_early _ _ r _ e

  pub change_decided : (s : Statement) → refusal_for (row_reasons t None s) ≡ None → change_means shards t s ≡ outcome (write_too_large (bound_change shards t s)) (bound_change shards t s)
  unfolding change_means
  change_decided s e = ap (λ o. outcome o (bound_change shards t s)) (rows_late t (write_too_large (bound_change shards t s)) s) ∙ decided_late _ _ _ e

  pub change_comes : (s : Statement) (w : BoundWrite) → change_means shards t s ≡ Ok w
      → (refusal_for (row_reasons t (write_too_large (bound_change shards t s)) s) ≡ None) × (bound_change shards t s ≡ w)
  unfolding change_means
  change_comes s w e = done _ _ w e

  -- a key that is too large is told before the values of rows and of elements
  pub change_key : (s : Statement) (f : BindFault) → KeyGives (Err f) (partition_key (key_terms_of s) t.columns) → WriteGives (Err f) (bound_change shards t s)
  unfolding bound_change write_too_large
  change_key s (fault.Refused r) e = e _
  change_key s fault.Mem e = tt
