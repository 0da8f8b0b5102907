-- What the reasons tell of a SELECT, whose bound form decides the last of them.
use Rattle.std.proofs.Common.{◌≡◌, ℕ, pos, Bool, true, false, ◌||◌, List, [], ◌∷◌, ◌++◌, Option, None, Some, Ok, Err, is_some, not, ap, ◌∙◌, refl}
use Rattle.std.specs.Option.{option_or}
use Rattle.cas_types.specs.declared.limits.TheConstants.{ROW_LIMIT}
use Rattle.cas_types.specs.declared.schema.TableSchema.{TableSchema}
use Rattle.cas_define.specs.Outcomes.{outcome}
use Rattle.cas_effects.specs.Refusals.{refusal_for}
use Rattle.cas_effects.specs.TooLarge.{too_large}
use Rattle.cas_effects.specs.declared.refusal.BindFault.{BindFault}
use Rattle.cas_effects.specs.declared.refusal.BindFault.TheVariants as fault
use Rattle.cas_effects.specs.declared.refusal.Refusal.{Refusal}
use Rattle.cas_effects.proofs.LargeValues as large_values
use Rattle.cas_keys.specs.KeyTerms.{term_in_where, partition_key}
use Rattle.cas_where.specs.Where.{restricts}
use Rattle.cas_keys.specs.Inner.Sources.{KeyGives}
use Rattle.cas_where.specs.declared.restrictions.Extent.TheVariants as extent
use Rattle.cql_parse.specs.declared.syntax.Select.{Select}
use Rattle.cql_parse.specs.declared.syntax.Statement.TheVariants as statement
use Rattle.cas_reasons.specs.RowFaults.{is_outside, follows_no_order, reads_outside_limits, has_bad_restriction}
use Rattle.cas_reasons.specs.RowReasons.{row_reasons}
use Rattle.cas_writes.proofs.ReasonOrder.{rows_late, restricts_well, refused_early, decided_late, done}
use Rattle.cas_bind.specs.Inner.Gives.{ReadGives}
use Rattle.cas_bind.specs.Selects.{bound_select, read_too_large, select_means}
use Rattle.cas_bind.specs.declared.bound.BoundRead.{BoundRead}

pub too_large_cons : (v : List ℕ) (vs : List (List ℕ)) → too_large (v ∷ vs) ≡ option_or (too_large (v ∷ [])) (too_large vs)
too_large_cons = large_values.too_large_cons

pub too_large_append : (vs ws : List (List ℕ)) → too_large (vs ++ ws) ≡ option_or (too_large vs) (too_large ws)
too_large_append = large_values.too_large_append

third : (a b c d : Bool) → (a || (b || (c || d))) ≡ false → c ≡ false
third true b c d e = cc
third false true c d e = cc
third false false true d e = cc
third false false false d e = refl

-- where no reason is told, the LIMIT is in its range
pub select_good : (t : TableSchema) (s : Select) → refusal_for (row_reasons t None (statement.Select s)) ≡ None → is_outside (pos 1) (pos ROW_LIMIT) s.limit ≡ false
unfolding row_reasons has_bad_restriction reads_outside_limits
select_good t s e =
    third (not (restricts extent.Slice t.columns s.relations)) (follows_no_order t.columns s.order) (is_outside (pos 1) (pos ROW_LIMIT) s.limit) (is_some s.after || is_some s.page)
    (restricts_well (row_reasons t None (statement.Select s)) e)

module _ (shards : ℕ) (t : TableSchema) where
  pub select_refused : (s : Select) (r : Refusal) → refusal_for (row_reasons t None (statement.Select s)) ≡ Some r → select_means shards t s ≡ Err r
  unfolding select_means
  select_refused s r e = ap (λ o. outcome o (bound_select shards t s)) (rows_late t (read_too_large (bound_select shards t s)) (statement.Select s)) ∙ refused_early _ _ r _ e

  pub select_decided : (s : Select) → refusal_for (row_reasons t None (statement.Select s)) ≡ None → select_means shards t s ≡ outcome (read_too_large (bound_select shards t s)) (bound_select shards t s)
  unfolding select_means
  select_decided s e = ap (λ o. outcome o (bound_select shards t s)) (rows_late t (read_too_large (bound_select shards t s)) (statement.Select s)) ∙ decided_late _ _ _ e

  pub select_comes : (s : Select) (r : BoundRead) → select_means shards t s ≡ Ok r
      → (refusal_for (row_reasons t (read_too_large (bound_select shards t s)) (statement.Select s)) ≡ None) × (bound_select shards t s ≡ r)
  unfolding select_means
  select_comes s r e = done _ _ r e

  -- a key that is too large is told before the values of slices
  pub select_key : (s : Select) (f : BindFault) → KeyGives (Err f) (partition_key (term_in_where s.relations) t.columns) → ReadGives (Err f) (bound_select shards t s)
  unfolding bound_select read_too_large
  select_key s (fault.Refused r) e = e _
  select_key s fault.Mem e = tt
