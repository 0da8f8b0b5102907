-- What a statement defines can be told by an entry of the manifest, and what entries tell are tables as statements define them.
-- CQL documentation, "Data definition: CREATE TABLE, ALTER TABLE". That the manifest takes each definition that isn't refused is own.
use Rattle.std.specs.Prelude.{◌≡◌, ◌≤◌, ◌<◌, ◌^◌, ℕ, List, ◌++◌, length, map, slice_get, Some, Ok}
use Rattle.cas_types.specs.declared.schema.TableSchema.{TableSchema}
use Rattle.cql_lex.specs.declared.token.Token.{Token}
use Rattle.cql_parse.specs.Means.{Means}
use Rattle.cql_parse.specs.declared.syntax.Statement.{Statement}
use Rattle.cas_define.specs.declared.addition.Addition.{Addition}
use Rattle.cas_bind.specs.Meaning.{meaning}
use Rattle.cas_bind.specs.Tables.{AreTables, tables_after}
use Rattle.cas_bind.specs.declared.bound.Bound.TheVariants as bound
use Rattle.cas_changes.specs.declared.entry.Entry.{Entry}
use Rattle.cas_changes.specs.declared.entry.Entry.TheVariants as entry
use Rattle.cas_changes.specs.Saying.{Saying, nothing, after, said_by}
use Rattle.cas_changes.specs.Allowed.{FitsEntry, HasSpelling}
use Rattle.cas_changes.specs.Spelling.{entry_bytes}
use Rattle.cas_manifest.specs.File.{MayFollow}

-- the entry may follow what is said, has room in its fields and in a block, and tells of these tables
pub record MayTell (said : Saying) (e : Entry) (tables : List TableSchema) : Type 0 where
  pub fits : FitsEntry said e
  pub spelled : HasSpelling e
  pub short : length (entry_bytes e) < 2 ^ 32
  pub tells : (after said e).tables ≡ tables

-- there is a table of the number
abbrev pub IsThere : List TableSchema → ℕ → Type 0
IsThere tables n = (t : TableSchema) × (slice_get tables n ≡ Some t)

-- A table that a CREATE TABLE of a source means may be told to a manifest that tells of the tables before it, and it then tells of those after it.
abbrev pub DefinedTablesMayBeTold : Type 0
DefinedTablesMayBeTold =
    (source : List ℕ) (tokens : List Token) (s : Statement) → Means source tokens s → (shards : ℕ) (tables : List TableSchema) (t : TableSchema)
    → meaning shards tables s ≡ Ok (bound.Create t) → (said : Saying) → said.tables ≡ tables → 1 ≤ said.shards
    → MayTell said (entry.Schema t) (tables_after tables (bound.Create t))

-- so may the columns that an ALTER TABLE ADD means, whose table is there
abbrev pub DefinedColumnsMayBeTold : Type 0
DefinedColumnsMayBeTold =
    (source : List ℕ) (tokens : List Token) (s : Statement) → Means source tokens s → (shards : ℕ) (tables : List TableSchema) (a : Addition) → AreTables tables
    → meaning shards tables s ≡ Ok (bound.Alter a) → (said : Saying) → said.tables ≡ tables → 1 ≤ said.shards
    → IsThere tables a.table × MayTell said (entry.AddColumns a.table a.columns) (tables_after tables (bound.Alter a))

-- entries that may follow one another tell of tables such as CREATE TABLE and ALTER TABLE make them
abbrev pub ToldTablesAreTables : Type 0
ToldTablesAreTables = (entries : List Entry) → MayFollow nothing entries → AreTables (said_by entries).tables

-- segments that are named leave the tables and the number of shards
abbrev pub NamedSegmentsDefineNothing : Type 0
NamedSegmentsDefineNothing =
    (entries : List Entry) (numbers : List ℕ)
    → ((said_by (entries ++ map entry.NewSegment numbers)).tables ≡ (said_by entries).tables)
    × ((said_by (entries ++ map entry.NewSegment numbers)).shards ≡ (said_by entries).shards)
