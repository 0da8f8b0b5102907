-- Which columns may stand behind which.
-- CQL documentation, "Data definition: CREATE TABLE, the primary key, static columns; ALTER TABLE". That the key's columns stand first is own.
use Rattle.std.specs.Prelude.{◌≡◌, ◌≤◌, ◌^◌, ◌<◌, ℕ, nat_lt, Bool, true, ◌&&◌, ◌||◌, not, List, length, is_some}
use Rattle.std.specs.List.{AllByRecursion, list_all, list_any}
use Rattle.cas_types.specs.Schemas.{is_partition, is_clustering, is_key, is_plain, is_map}
use Rattle.cas_types.specs.declared.schema.Kind.{Kind}
use Rattle.cas_types.specs.declared.schema.Kind.TheVariants.{Partition, Ascending, Descending, Static, Regular}
use Rattle.cas_types.specs.declared.schema.Shape.{Shape}
use Rattle.cas_types.specs.declared.schema.Column.{Column}
use Rattle.cas_schemas.specs.Each.{EachFits}
use Rattle.cas_schemas.specs.Names.{is_new_column}

-- there is a column, so that the partition key has one
abbrev pub has_some : List Column → Bool
has_some before = nat_lt 0 (length before)

-- The partition key's columns stand first, then the clustering columns, then the others; a static one is there only in a table with clustering
-- columns.
abbrev pub comes_after : List Column → Kind → Bool
comes_after before Partition = list_all (λ c. is_partition c.kind) before
comes_after before Ascending = has_some before && list_all (λ c. is_key c.kind) before
comes_after before Descending = has_some before && list_all (λ c. is_key c.kind) before
comes_after before Static = list_any (λ c. is_clustering c.kind) before
comes_after before Regular = has_some before

-- to a table that is there ALTER TABLE adds no column of the key
abbrev pub may_stand : Bool → List Column → Kind → Bool
may_stand new before kind = comes_after before kind && (new || not (is_key kind))

-- a column of the key is no collection
abbrev pub may_have : Kind → Shape → Bool
may_have kind shape = is_plain shape || not (is_key kind)

-- a column that may stand behind these, in a table that is new or not
pub record FitsColumn (new : Bool) (before : List Column) (c : Column) : Type 0 where
  pub name : is_new_column before c.name ≡ true
  pub kind : may_stand new before c.kind ≡ true
  pub shape : may_have c.kind c.shape ≡ true
  pub second : is_some c.second ≡ is_map c.shape

-- columns that may stand behind these, from 1 up to so many
abbrev pub FitColumns : ℕ → Bool → List Column → List Column → Type 0
FitColumns limit new before columns = (1 ≤ length columns) × (length columns ≤ limit) × EachFits (FitsColumn new) before columns

-- columns whose number and names have room in their fields
abbrev pub HaveRoom : List Column → Type 0
HaveRoom columns = (length columns < 2 ^ 16) × AllByRecursion (λ c. length c.name < 2 ^ 16) columns
