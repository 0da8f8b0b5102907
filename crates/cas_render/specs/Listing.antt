-- What `\status` lists: of each table in each shard the table files there, by the tables' names and then by shard.
-- Cassandra documentation, "nodetool tablestats"; the order is own.
use Rattle.std.specs.Prelude.{ℕ, List, [], ◌∷◌, map, if◌then◌else◌}
use Rattle.std.specs.List.{flat_map, range_with_len}
use Rattle.std.specs.Ordering.{is_lt, nat_cmp, ordering_then}
use Rattle.std.specs.declared.cmp.Ordering.{Ordering}
use Rattle.cas_types.specs.Values.{bytes_cmp}
use Rattle.cas_types.specs.declared.schema.TableSchema.{TableSchema}
use Rattle.cas_render.specs.declared.reply.Listed.{Listed}

-- in a list in order the element stands behind what is below it
abbrev pub placed : {A : Type 0} → (A → A → Ordering) → A → List A → List A
placed cmp x [] = x ∷ []
placed cmp x (y ∷ ys) = if is_lt (cmp y x) then y ∷ placed cmp x ys else x ∷ y ∷ ys

-- the same elements in ascending order
abbrev pub in_order : {A : Type 0} → (A → A → Ordering) → List A → List A
in_order cmp [] = []
in_order cmp (x ∷ xs) = placed cmp x (in_order cmp xs)

-- by the table's name, byte by byte, and then by shard; where two tables had one name, by their files
abbrev pub listed_cmp : Listed → Listed → Ordering
listed_cmp a b = ordering_then (bytes_cmp a.table b.table) (ordering_then (nat_cmp a.shard b.shard) (bytes_cmp a.files b.files))

-- a table in a shard where its files have these numbers: its name, and the numbers ascending
abbrev pub listed_of : TableSchema → ℕ → List ℕ → Listed
listed_of t shard numbers = record { table = t.name; shard = shard; files = in_order nat_cmp numbers }

-- a table in each of so many shards, where its files have these numbers by shard and table
abbrev pub in_shards : ℕ → (ℕ → ℕ → List ℕ) → TableSchema → List Listed
in_shards shards numbers t = map (λ n. listed_of t n (numbers n t.number)) (range_with_len 0 shards)

-- each table in each shard, in order
unfoldable pub status_of : List TableSchema → ℕ → (ℕ → ℕ → List ℕ) → List Listed
status_of tables shards numbers = in_order listed_cmp (flat_map (in_shards shards numbers) tables)
