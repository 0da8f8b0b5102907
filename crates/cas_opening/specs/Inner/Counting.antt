-- What is collected of each table in each shard, table by table. Own.
use Rattle.std.specs.Prelude.{ℕ, zero, suc, List, [], ◌∷◌, ◌++◌, map}
use Rattle.cas_info.specs.declared.info.TableInfo.{TableInfo}
use Rattle.cas_changes.specs.Saying.{Saying, part_of}

-- the numbers of these files
abbrev pub numbers_of : List TableInfo → List ℕ
numbers_of infos = map (λ i. i.number) infos

-- the frontiers of a table in so many shards, from the first
abbrev pub frontiers_in : Saying → ℕ → ℕ → List ℕ
frontiers_in s table zero = []
frontiers_in s table (suc shard) = frontiers_in s table shard ++ (part_of s table shard).frontier ∷ []

-- the frontiers of so many tables, from the first
abbrev pub frontiers_below : Saying → ℕ → List ℕ
frontiers_below s zero = []
frontiers_below s (suc table) = frontiers_below s table ++ frontiers_in s table s.shards

-- the numbers of the listed files of a table in so many shards, from the first
abbrev pub listed_in : Saying → ℕ → ℕ → List ℕ
listed_in s table zero = []
listed_in s table (suc shard) = listed_in s table shard ++ numbers_of (part_of s table shard).listed

-- and of so many tables, from the first
abbrev pub listed_below : Saying → ℕ → List ℕ
listed_below s zero = []
listed_below s (suc table) = listed_below s table ++ listed_in s table s.shards
