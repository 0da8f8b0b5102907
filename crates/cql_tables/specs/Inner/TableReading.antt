-- Reading CREATE TABLE, ALTER TABLE and the names of tables.
use Rattle.std.specs.Prelude.{ℕ, Bool, true, false, List, [], ◌∷◌, length, Option, None, Some, option_and_then, if◌then◌else◌}
use Rattle.cas_types.specs.declared.tag.TypeTag.{TypeTag}
use Rattle.cas_types.specs.declared.tag.TypeTag.TheVariants as tag
use Rattle.cql_phrases.specs.declared.lexeme.Lexeme.{Lexeme}
use Rattle.cql_phrases.specs.declared.lexeme.Lexeme.TheVariants as lexeme
use Rattle.cql_phrases.specs.declared.keyword.Keyword.{Keyword}
use Rattle.cql_phrases.specs.declared.keyword.Keyword.TheVariants as word
use Rattle.cql_lex.specs.declared.token.Mark.TheVariants as mark
use Rattle.cql_phrases.specs.declared.lists.Separator.TheVariants as separator
use Rattle.cql_tables.specs.declared.syntax.TableName.{TableName}
use Rattle.cql_tables.specs.declared.syntax.CreateTable.{CreateTable}
use Rattle.cql_tables.specs.declared.syntax.AlterTable.{AlterTable}
use Rattle.cql_tables.specs.declared.syntax.Item.{Item}
use Rattle.cql_tables.specs.declared.syntax.Item.TheVariants as item
use Rattle.cql_tables.specs.declared.syntax.DefinedColumn.{DefinedColumn}
use Rattle.cql_tables.specs.declared.syntax.AddedColumn.{AddedColumn}
use Rattle.cql_tables.specs.declared.syntax.PrimaryKey.{PrimaryKey}
use Rattle.cql_tables.specs.declared.syntax.ColumnType.{ColumnType}
use Rattle.cql_tables.specs.declared.syntax.ColumnType.TheVariants as column_type
use Rattle.cql_tables.specs.declared.syntax.TableOption.{TableOption}
use Rattle.cql_tables.specs.declared.syntax.TableOption.TheVariants as table_option
use Rattle.cql_tables.specs.declared.syntax.OptionValue.{OptionValue}
use Rattle.cql_tables.specs.declared.syntax.OptionValue.TheVariants as option_value
use Rattle.cql_tables.specs.declared.syntax.Suboption.{Suboption}
use Rattle.cql_tables.specs.declared.syntax.ColumnOrder.{ColumnOrder}
use Rattle.cql_lex.specs.declared.token.Token.{Token}
use Rattle.cql_phrases.specs.Lexemes.{lexemes_of}
use Rattle.cql_tables.specs.TableNames.{are_joined}
use Rattle.cql_phrases.specs.Inner.Reading.{Reader, done, and_then, ◌>>=◌, chosen, after_word, after_mark, word_at, mark_at, flag_at}
use Rattle.cql_phrases.specs.Inner.Reading.{close_brace_at, name_at, from_at, list_at, in_parens, list_behind}
use Rattle.cql_phrases.specs.Inner.TermReading.{constant_at, setting_at}

unfoldable pub table_at : Reader TableName
table_at = do
  first ← name_at
  λ l. chosen (after_mark mark.Dot l) (do
    second ← name_at
    done (record { keyspace = Some first; name = second })) (Some (record { keyspace = None; name = first }, l))

-- a column of an ORDER BY or a CLUSTERING ORDER BY
unfoldable pub column_order_at : Reader ColumnOrder
column_order_at = do
  name ← name_at
  λ l. chosen (after_word word.Desc l) (done (record { name = name; descending = true }))
      (chosen (after_word word.Asc l) (done (record { name = name; descending = false })) (Some (record { name = name; descending = false }, l)))

-- ---- CREATE TABLE and ALTER TABLE

-- the words of the types
abbrev pub natives : List (Keyword × TypeTag)
natives =
    (word.Ascii, tag.Ascii) ∷
    (word.BigInt, tag.BigInt) ∷
    (word.Blob, tag.Blob) ∷
    (word.Boolean, tag.Boolean) ∷
    (word.Date, tag.Date) ∷
    (word.Int, tag.Int) ∷
    (word.SmallInt, tag.SmallInt) ∷
    (word.Text, tag.Text) ∷
    (word.Time, tag.Time) ∷
    (word.Timestamp, tag.Timestamp) ∷
    (word.TimeUuid, tag.TimeUuid) ∷
    (word.TinyInt, tag.TinyInt) ∷
    (word.Uuid, tag.Uuid) ∷
    (word.VarChar, tag.Text) ∷ []

unfoldable pub first_type_of : List (Keyword × TypeTag) → Reader TypeTag
first_type_of [] l = None
first_type_of (n ∷ ns) l = chosen (after_word n.0 l) (done n.1) (first_type_of ns l)

unfoldable pub native_at : Reader TypeTag
native_at l = first_type_of natives l

unfoldable pub one_in_angles : Reader TypeTag
one_in_angles = do
  _ ← mark_at mark.Less
  t ← native_at
  _ ← mark_at mark.Greater
  done t

unfoldable pub two_in_angles : Reader ColumnType
two_in_angles = do
  _ ← mark_at mark.Less
  key ← native_at
  _ ← mark_at mark.Comma
  value ← native_at
  _ ← mark_at mark.Greater
  done (column_type.MapOf key value)

unfoldable pub type_at : Reader ColumnType
type_at l =
    chosen (after_word word.Set l) (do
      t ← one_in_angles
      done (column_type.SetOf t)) (chosen (after_word word.List l) (do
        t ← one_in_angles
        done (column_type.ListOf t)) (chosen (after_word word.Map l) two_in_angles (and_then (native_at l) (λ t. done (column_type.One t)))))

unfoldable pub key_flag : Reader Bool
key_flag l =
    chosen (after_word word.Primary l) (do
      _ ← word_at word.Key
      done true) (Some (false, l))

unfoldable pub defined_at : Reader DefinedColumn
defined_at = do
  name ← name_at
  type ← type_at
  is_static ← flag_at word.Static
  is_key ← key_flag
  done (record { name = name; column_type = type; is_static = is_static; is_key = is_key })

unfoldable pub added_at : Reader AddedColumn
added_at = do
  name ← name_at
  type ← type_at
  is_static ← flag_at word.Static
  done (record { name = name; column_type = type; is_static = is_static })

unfoldable pub names_closed : Reader (List (List ℕ))
names_closed = do
  names ← list_at separator.Comma name_at
  _ ← mark_at mark.CloseParen
  done names

unfoldable pub partition_at : Reader (List (List ℕ))
partition_at l = chosen (after_mark mark.OpenParen l) names_closed (and_then (name_at l) (λ name. done (name ∷ [])))

unfoldable pub key_at : Reader PrimaryKey
key_at = do
  _ ← word_at word.Key
  _ ← mark_at mark.OpenParen
  partition ← partition_at
  clustering ← from_at separator.Comma name_at []
  _ ← mark_at mark.CloseParen
  done (record { partition = partition; clustering = clustering })

unfoldable pub item_at : Reader Item
item_at l =
    chosen (after_word word.Primary l) (do
      key ← key_at
      done (item.PrimaryKey key)) (and_then (defined_at l) (λ c. done (item.Column c)))

unfoldable pub suboption_at : Reader Suboption
suboption_at = do
  key ← setting_at
  _ ← mark_at mark.Colon
  value ← setting_at
  done (record { key = key; value = value })

unfoldable pub suboptions_closed : Reader OptionValue
suboptions_closed = do
  xs ← list_at separator.Comma suboption_at
  _ ← close_brace_at
  done (option_value.Suboptions xs)

abbrev pub constant_value : Reader OptionValue
constant_value = do
  c ← constant_at
  done (option_value.Constant c)

unfoldable pub option_value_at : Reader OptionValue
option_value_at [] = None
option_value_at (lexeme.Ratio n ∷ l) = Some (option_value.Ratio n, l)
option_value_at (lexeme.OpenBrace at ∷ l) = suboptions_closed l
option_value_at (x ∷ l) = constant_value (x ∷ l)

unfoldable pub named_option_at : Reader TableOption
named_option_at = do
  name ← name_at
  _ ← mark_at mark.Equals
  value ← option_value_at
  done (table_option.Named (record { name = name; value = value }))

unfoldable pub after_words : Keyword → Keyword → List Lexeme → Option (List Lexeme)
after_words j k l = elim (after_word j l) [ None ↦ None | Some r ↦ after_word k r ]

unfoldable pub clustering_order_at : Reader TableOption
clustering_order_at = do
  _ ← word_at word.By
  columns ← in_parens column_order_at
  done (table_option.ClusteringOrder columns)

unfoldable pub option_at : Reader TableOption
option_at l = chosen (after_words word.Clustering word.Order l) clustering_order_at (named_option_at l)

unfoldable pub create_at : Reader CreateTable
create_at = do
  _ ← word_at word.Table
  table ← table_at
  items ← in_parens item_at
  options ← list_behind word.With separator.And option_at
  done (record { table = table; items = items; options = options })

unfoldable pub alter_at : Reader AlterTable
alter_at = do
  _ ← word_at word.Table
  table ← table_at
  _ ← word_at word.Add
  added ← list_at separator.Comma added_at
  done (record { table = table; added = added })

-- with no lexeme left
abbrev pub ended : {A : Type 0} → Option (A × List Lexeme) → Option A
ended None = None
ended (Some (a, [])) = Some a
ended (Some (a, x ∷ l)) = None

-- ---- the name of a table, alone

unfoldable pub table_alone : List Lexeme → Option TableName
table_alone l = ended (table_at l)

-- the table whose name these tokens of a word are, by reading
unfoldable pub table_of : List ℕ → List Token → Option TableName
table_of source tokens = if are_joined 0 tokens (length source) then option_and_then table_alone (lexemes_of source tokens) else None
