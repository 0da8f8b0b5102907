-- Which tables a CREATE TABLE that isn't refused makes.
-- CQL documentation, "Data definition: CREATE TABLE". How many there may be is own.
use Rattle.std.specs.Prelude.{◌≡◌, ◌<◌, ◌^◌, true, List, [], length}
use Rattle.cas_types.specs.declared.schema.TableSchema.{TableSchema}
use Rattle.cas_schemas.specs.declared.schemas.TheConstants.{TABLE_LIMIT}
use Rattle.cas_schemas.specs.Columns.{FitColumns, HaveRoom}
use Rattle.cas_schemas.specs.Names.{is_new_table}
use Rattle.cas_schemas.specs.Options.{FitsOptions}
use Rattle.cas_types.specs.declared.limits.TheConstants.{COLUMN_LIMIT}

-- a table that may be made after these: numbers count from 0, and there are at most 64 tables
pub record FitsTable (tables : List TableSchema) (t : TableSchema) : Type 0 where
  pub number : t.number ≡ length tables
  pub few : t.number < TABLE_LIMIT
  pub name : is_new_table tables t.name ≡ true
  pub columns : FitColumns COLUMN_LIMIT true [] t.columns
  pub options : FitsOptions t.options

-- a table whose parts have room in their fields
pub record HasSpelling (t : TableSchema) : Type 0 where
  pub name : length t.name < 2 ^ 16
  pub columns : HaveRoom t.columns
