-- What holds of all that is listed (own).
use Rattle.std.specs.Prelude.{ℕ, List}
use Rattle.std.specs.List.{flat_map}
use Rattle.std.specs.List.Sorted.{IsPermutation, IsSorted}
use Rattle.std.specs.Ordering.{nat_cmp}
use Rattle.cas_types.specs.declared.schema.TableSchema.{TableSchema}
use Rattle.cas_render.specs.Listing.{in_order, in_shards, listed_cmp, status_of}

-- a status has each table in each shard once, by name and then by shard
abbrev pub StatusAscends : Type 0
StatusAscends =
    (tables : List TableSchema) (shards : ℕ) (numbers : ℕ → ℕ → List ℕ)
    → IsPermutation (flat_map (in_shards shards numbers) tables) (status_of tables shards numbers) × IsSorted listed_cmp (status_of tables shards numbers)

-- the numbers of files that it has ascend, and are those that there are
abbrev pub NumbersAscend : Type 0
NumbersAscend = (numbers : List ℕ) → IsPermutation numbers (in_order nat_cmp numbers) × IsSorted nat_cmp (in_order nat_cmp numbers)
