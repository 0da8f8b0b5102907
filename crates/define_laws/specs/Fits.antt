-- What is defined can be written to the manifest and read back.
-- CQL documentation, "Data definition: CREATE TABLE, ALTER TABLE". That the manifest takes each definition that isn't refused is own.
use Rattle.std.specs.Prelude.{◌≡◌, ◌≤◌, ◌-◌, ℕ, true, false, List, length, map, Ok}
use Rattle.std.specs.List.{list_all}
use Rattle.std.specs.Str.{is_utf8}
use Rattle.cas_types.specs.declared.limits.TheConstants.{COLUMN_LIMIT}
use Rattle.cas_types.specs.declared.schema.TableSchema.{TableSchema}
use Rattle.cql_lex.specs.declared.token.Token.{Token}
use Rattle.cql_parse.specs.Means.{Means}
use Rattle.cql_parse.specs.declared.syntax.AlterTable.{AlterTable}
use Rattle.cql_parse.specs.declared.syntax.CreateTable.{CreateTable}
use Rattle.cql_parse.specs.declared.syntax.Statement.TheVariants as statement
use Rattle.cas_define.specs.AlterReasons.{alter_means}
use Rattle.cas_define.specs.CreateReasons.{create_means}
use Rattle.cas_define.specs.CreateTests.{names_defined}
use Rattle.cas_define.specs.IsTable.{IsTable}
use Rattle.cas_define.specs.Schemas.{columns_defined}
use Rattle.cas_define.specs.declared.addition.Addition.{Addition}
use Rattle.cas_schemas.specs.Allowed.{FitsTable}
use Rattle.cas_schemas.specs.Columns.{FitColumns}

-- the names are UTF-8, as all text of a statement is
abbrev pub AreTexts : List (List ℕ) → Type 0
AreTexts names = list_all is_utf8 names ≡ true

-- a CREATE TABLE that isn't refused makes a table that the manifest may tell of after those that there are
abbrev pub MadeTableFits : Type 0
MadeTableFits =
    (tables : List TableSchema) (c : CreateTable) (t : TableSchema) → AreTexts (names_defined (columns_defined c.items)) → create_means tables c ≡ Ok t
    → FitsTable tables t

-- an ALTER TABLE that isn't refused, and that names a column at least, as the grammar has it, adds columns that the manifest may tell of
abbrev pub AddedColumnsFit : Type 0
AddedColumnsFit =
    (t : TableSchema) (a : AlterTable) (d : Addition) → IsTable t → 1 ≤ length a.added → AreTexts (map (λ c. c.name) a.added) → alter_means t a ≡ Ok d
    → FitColumns (COLUMN_LIMIT - length t.columns) false t.columns d.columns

-- so does each CREATE TABLE that the tokens of a source spell, where it isn't refused: its names are texts
abbrev pub StatedTablesFit : Type 0
StatedTablesFit =
    (source : List ℕ) (tokens : List Token) (c : CreateTable) → Means source tokens (statement.Create c) → (tables : List TableSchema) (t : TableSchema)
    → create_means tables c ≡ Ok t → FitsTable tables t

-- and each ALTER TABLE, which names a column at least
abbrev pub StatedColumnsFit : Type 0
StatedColumnsFit =
    (source : List ℕ) (tokens : List Token) (a : AlterTable) → Means source tokens (statement.Alter a) → (t : TableSchema) (d : Addition)
    → IsTable t → alter_means t a ≡ Ok d → FitColumns (COLUMN_LIMIT - length t.columns) false t.columns d.columns
