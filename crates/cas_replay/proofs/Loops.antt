-- How a loop comes by the records of a block.
use Rattle.std.proofs.Common.{◌≡◌, ℕ, suc, ◌+◌, ◌-◌, ◌<◌, ◌≤◌, List, [], ◌∷◌, ◌++◌, Ok, Err, sym, ap, ◌∙◌, arith}
use Rattle.cas_types.specs.declared.schema.TableSchema.{TableSchema}
use Rattle.cas_codec.specs.declared.fault.ReadFault.{ReadFault}
use Rattle.cas_codec.specs.Reading.{Left, Read, ◌>>=◌}
use Rattle.cas_atoms.specs.declared.atom.Mutation.{Mutation}
use Rattle.cas_replay.specs.Reading.{next_at, records_at}

-- ---- records: i of n are read

module _ (tables : List TableSchema) (shards n i : ℕ) (before : List Mutation) (left : Left) (whole : Read (List Mutation))
    (so_far : records_at tables shards (n - i) before left ≡ whole) where
  -- one more
  pub record_more : i < n → (m : Mutation) (after : Left) → next_at tables shards before left ≡ Ok (m, after)
      → records_at tables shards (n - (i + 1)) (before ++ m ∷ []) after ≡ whole
  unfolding records_at
  record_more more m after e =
      let k : n - i ≡ suc (n - (i + 1)) = omega arith in
      sym (ap (λ (j : ℕ). records_at tables shards j before left) k
      ∙ ap (λ (r : Read Mutation). r >>= λ next. records_at tables shards (n - (i + 1)) (before ++ next.0 ∷ []) next.1) e)
      ∙ so_far

  -- the next one isn't there
  pub record_fault : i < n → (f : ReadFault) → next_at tables shards before left ≡ Err f → whole ≡ Err f
  unfolding records_at
  record_fault more f e =
      let k : n - i ≡ suc (n - (i + 1)) = omega arith in
      sym so_far
      ∙ ap (λ (j : ℕ). records_at tables shards j before left) k
      ∙ ap (λ (r : Read Mutation). r >>= λ next. records_at tables shards (n - (i + 1)) (before ++ next.0 ∷ []) next.1) e

  -- all are read
  pub records_all : n ≤ i → whole ≡ Ok (before, left)
  unfolding records_at
  records_all through =
      let k : n - i ≡ 0 = omega arith in
      sym so_far ∙ ap (λ (j : ℕ). records_at tables shards j before left) k
