-- Lists of which each element keeps a fact.
use Rattle.std.proofs.Common.{ℕ, ℤ, List, [], ◌∷◌, ◌++◌, All, slice_set}
use Rattle.std.proofs.lemmas.List.Elements.{All-append, All-cons, All-nil, All-set}
use Rattle.cas_types.specs.Limits.{IsMoment, IsNarrow}
use Rattle.cas_atoms.specs.declared.atom.Mutation.{Mutation}
use Rattle.cas_define.specs.IsTable.{IsTable}
use Rattle.cas_bind.specs.Tables.{AreTables}
use Rattle.cas_reference.specs.Kept.{IsKept}

-- moments of which one is set to a moment
pub moments_set : (met : List ℤ) (shard : ℕ) (m : ℤ) → IsMoment m → All IsMoment met → All IsMoment (slice_set met shard m)
moments_set met shard m one all = All-set IsMoment met shard m one all

-- kept mutations with one more behind them
pub kept_more : (ms : List Mutation) (m : Mutation) → All IsKept ms → IsKept m → All IsKept (ms ++ m ∷ [])
kept_more ms m all one = All-append IsKept ms (m ∷ []) all (All-cons IsKept m [] one (All-nil IsKept))

-- a store begins with no table
pub no_tables : AreTables []
no_tables = record { narrow = All-nil (λ t. IsNarrow t.columns); numbered = tt; each = All-nil IsTable }
