-- Which writes a table can take: those of which the atoms are ones that the table's files and log may hold.
-- CQL documentation, "Data definition: the primary key; static columns", "Data types: collections" and "Data manipulation: USING TIMESTAMP, USING TTL".
use Rattle.std.specs.Prelude.{◌≡◌, ℕ, ℤ, pos, ◌<◌, ◌≤◌, ◌≤ℤ◌, Bool, true, false, List, Option, None, Some, IfSome}
use Rattle.std.specs.List.{All}
use Rattle.cas_types.specs.Limits.{IsMoment}
use Rattle.cas_types.specs.Schemas.{is_plain, is_static, is_regular}
use Rattle.cas_types.specs.declared.limits.TheConstants.{LEAST_TIMESTAMP, GREATEST_TIMESTAMP, TTL_LIMIT, LAST_DRAWN, MUTATION_LIMIT}
use Rattle.cas_types.specs.declared.schema.Column.{Column}
use Rattle.cas_types.specs.declared.schema.Kind.{Kind}
use Rattle.cas_types.specs.declared.schema.Shape.TheVariants as shape
use Rattle.cas_types.specs.declared.schema.TableSchema.{TableSchema}
use Rattle.cas_bounds.specs.ClusteringOrder.{clustering_order}
use Rattle.cas_bounds.specs.declared.cuts.Clustering.{Clustering}
use Rattle.cas_atoms.specs.Fits.{FitsClustering, FitsCut, FitsPath, FitsKey, FitsMutation, Names, is_cell_value}
use Rattle.cas_atoms.specs.declared.atom.ColumnRef.{ColumnRef}
use Rattle.cas_effects.specs.AtomsOf.{mutation_of}
use Rattle.cas_effects.specs.declared.effect.BoundWrite.{BoundWrite}
use Rattle.cas_effects.specs.declared.effect.Effect.{Effect}
use Rattle.cas_effects.specs.declared.effect.Effect.TheVariants as effect
use Rattle.cas_effects.specs.declared.effect.Elements.{Elements}
use Rattle.cas_effects.specs.declared.effect.Elements.TheVariants as elements

-- ---- columns and what they are given

-- static columns are written in the static row, and regular ones in rows
abbrev pub kind_in : Option Clustering → Kind → Bool
kind_in None = is_static
kind_in (Some c) = is_regular

-- a row of the table, or its static row
abbrev pub FitsRow : List Column → Option Clustering → Type 0
FitsRow columns None = Unit {0}
FitsRow columns (Some c) = FitsClustering (clustering_order columns) c

-- the column that is named, in a row where it is written; it holds what it is given
pub record FitsColumn (columns : List Column) (row : Option Clustering) (ref : ColumnRef) (Holds : Column → Type 0) : Type 0 where
  pub place : FitsRow columns row
  pub column : Column
  pub named : Names columns ref column
  pub kind : kind_in row column.kind ≡ true
  pub holds : Holds column

-- a value that a cell of the column may hold, or null
abbrev pub FitsGiven : Column → Option (List ℕ) → Type 0
FitsGiven c None = Unit {0}
FitsGiven c (Some v) = is_cell_value c v ≡ true

-- elements of the column: of a set or a map each with its path, and of a list each with a value
abbrev pub FitsElements : Column → Elements → Type 0
FitsElements c (elements.At es) = All (λ e. FitsPath c e.0 × FitsGiven c e.1) es
FitsElements c (elements.Appended vs) = (c.shape ≡ shape.List) × All (λ v. is_cell_value c v ≡ true) vs
FitsElements c (elements.Prepended vs) = (c.shape ≡ shape.List) × All (λ v. is_cell_value c v ≡ true) vs

-- ---- effects and writes

-- an effect on rows and columns of the table
abbrev pub FitsEffect : List Column → Effect → Type 0
FitsEffect columns (effect.Live c) = FitsClustering (clustering_order columns) c
FitsEffect columns (effect.Plain row ref v) = FitsColumn columns row ref (λ c. (c.shape ≡ shape.One) × FitsGiven c v)
FitsEffect columns (effect.Whole row ref es) = FitsColumn columns row ref (λ c. (is_plain c.shape ≡ false) × FitsElements c es)
FitsEffect columns (effect.Parts row ref es) = FitsColumn columns row ref (λ c. FitsElements c es)
FitsEffect columns (effect.Emptied row ref) = FitsColumn columns row ref (λ c. is_plain c.shape ≡ false)
FitsEffect columns (effect.Row c) = FitsClustering (clustering_order columns) c
FitsEffect columns (effect.Range lo hi) = FitsCut (clustering_order columns) lo × FitsCut (clustering_order columns) hi
FitsEffect columns effect.Partition = Unit {0}

-- a timestamp that USING TIMESTAMP takes
abbrev pub IsUsable : ℤ → Type 0
IsUsable at = (LEAST_TIMESTAMP ≤ℤ at) × (at ≤ℤ GREATEST_TIMESTAMP)

-- a timestamp that is drawn for a statement
abbrev pub IsDrawn : ℤ → Type 0
IsDrawn at = (pos 0 ≤ℤ at) × (at ≤ℤ LAST_DRAWN)

-- a write that the table can take, in a store with so many shards
pub record FitsBound (table : TableSchema) (shards : ℕ) (w : BoundWrite) : Type 0 where
  pub of_table : w.table ≡ table.number
  pub shard : w.shard < shards
  pub key : FitsKey w.key
  pub timestamp : IfSome w.timestamp IsUsable
  pub ttl : w.ttl ≤ TTL_LIMIT
  pub effects : All (FitsEffect table.columns) w.effects

-- the law: the mutation of such a write, at a drawn timestamp, a moment and a number, is one that the store may hold
abbrev pub MutationsFit : Type 0
MutationsFit =
    (table : TableSchema) (shards : ℕ) (w : BoundWrite) (drawn moment : ℤ) (number : ℕ) → FitsBound table shards w → IsDrawn drawn → IsMoment moment
    → (1 ≤ number) × (number ≤ MUTATION_LIMIT) → FitsMutation table shards (mutation_of w drawn moment number)
