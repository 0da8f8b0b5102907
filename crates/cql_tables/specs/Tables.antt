-- The grammar of CREATE TABLE, of ALTER TABLE and of what else names a table or orders columns. A phrase goes from the lexemes that come to
-- those that are left after it, as `Phrases` of `cql_phrases` says, which also has names, lists, constants and terms. In the comments `[x]` is x
-- or nothing, `{x}` is x any number of times, `x | y` is one of them.
-- CQL documentation, "Data definition".
use Rattle.std.specs.Prelude.{ℕ, Bool, true, false, List, [], ◌∷◌, Option, None, Some}
use Rattle.cas_types.specs.declared.tag.TypeTag.{TypeTag}
use Rattle.cas_types.specs.declared.tag.TypeTag.TheVariants as tag
use Rattle.cql_phrases.specs.declared.lexeme.Lexeme.TheVariants as lexeme
use Rattle.cql_phrases.specs.declared.keyword.Keyword.TheVariants as word
use Rattle.cql_lex.specs.declared.token.Mark.TheVariants as mark
use Rattle.cql_phrases.specs.declared.lists.Separator.TheVariants as separator
use Rattle.cql_tables.specs.declared.syntax.TableName.{TableName}
use Rattle.cql_tables.specs.declared.syntax.CreateTable.{CreateTable}
use Rattle.cql_tables.specs.declared.syntax.AlterTable.{AlterTable}
use Rattle.cql_tables.specs.declared.syntax.Item.{Item}
use Rattle.cql_tables.specs.declared.syntax.Item.TheVariants as item
use Rattle.cql_tables.specs.declared.syntax.DefinedColumn.{DefinedColumn}
use Rattle.cql_tables.specs.declared.syntax.AddedColumn.{AddedColumn}
use Rattle.cql_tables.specs.declared.syntax.PrimaryKey.{PrimaryKey}
use Rattle.cql_tables.specs.declared.syntax.ColumnType.{ColumnType}
use Rattle.cql_tables.specs.declared.syntax.ColumnType.TheVariants as column_type
use Rattle.cql_tables.specs.declared.syntax.TableOption.{TableOption}
use Rattle.cql_tables.specs.declared.syntax.TableOption.TheVariants as table_option
use Rattle.cql_tables.specs.declared.syntax.OptionValue.{OptionValue}
use Rattle.cql_tables.specs.declared.syntax.OptionValue.TheVariants as option_value
use Rattle.cql_tables.specs.declared.syntax.Suboption.{Suboption}
use Rattle.cql_tables.specs.declared.syntax.ColumnOrder.{ColumnOrder}
use Rattle.cql_phrases.specs.Phrases.{Behind, If, InParens, IsConstant, IsName, IsSetting, More, Phrase}
use Rattle.cql_phrases.specs.Phrases.{Some_of, close_brace, keyword, nothing, nowhere, one, open_brace, sign, ◌∣◌, ◌▸◌}

-- ---- tables

-- [name "."] name: `t`, `local.t`
abbrev pub Qualified : Option (List ℕ) → List ℕ → Phrase
Qualified None n = IsName n
Qualified (Some k) n = IsName k ▸ sign mark.Dot ▸ IsName n

-- a table, perhaps with its keyspace before it: `local.t`
abbrev pub IsTable : TableName → Phrase
IsTable t = Qualified t.keyspace t.name

-- [ASC | DESC], by whether it is descending
abbrev pub Direction : Bool → Phrase
Direction true = keyword word.Desc
Direction false = keyword word.Asc ∣ nothing

-- name [ASC | DESC]: `c DESC`
abbrev pub IsColumnOrder : ColumnOrder → Phrase
IsColumnOrder o = IsName o.name ▸ Direction o.descending

-- ---- CREATE TABLE, ALTER TABLE

-- the word of a type that is no collection: `int`; `varchar` is `text`
abbrev pub IsNative : TypeTag → Phrase
IsNative tag.Ascii = keyword word.Ascii
IsNative tag.BigInt = keyword word.BigInt
IsNative tag.Blob = keyword word.Blob
IsNative tag.Boolean = keyword word.Boolean
IsNative tag.Date = keyword word.Date
IsNative tag.Int = keyword word.Int
IsNative tag.SmallInt = keyword word.SmallInt
IsNative tag.Text = keyword word.Text ∣ keyword word.VarChar
IsNative tag.Time = keyword word.Time
IsNative tag.Timestamp = keyword word.Timestamp
IsNative tag.TimeUuid = keyword word.TimeUuid
IsNative tag.TinyInt = keyword word.TinyInt
IsNative tag.Uuid = keyword word.Uuid

-- native | SET "<" native ">" | LIST "<" native ">" | MAP "<" native "," native ">": `map<text, int>`
abbrev pub IsType : ColumnType → Phrase
IsType (column_type.One t) = IsNative t
IsType (column_type.SetOf t) = keyword word.Set ▸ sign mark.Less ▸ IsNative t ▸ sign mark.Greater
IsType (column_type.ListOf t) = keyword word.List ▸ sign mark.Less ▸ IsNative t ▸ sign mark.Greater
IsType (column_type.MapOf k v) = keyword word.Map ▸ sign mark.Less ▸ IsNative k ▸ sign mark.Comma ▸ IsNative v ▸ sign mark.Greater

-- name type [STATIC] [PRIMARY KEY]: `k int PRIMARY KEY`
abbrev pub IsDefined : DefinedColumn → Phrase
IsDefined x = IsName x.name ▸ IsType x.column_type ▸ If (keyword word.Static) x.is_static ▸ If (keyword word.Primary ▸ keyword word.Key) x.is_key

-- name type [STATIC]: `s int STATIC`
abbrev pub IsAdded : AddedColumn → Phrase
IsAdded x = IsName x.name ▸ IsType x.column_type ▸ If (keyword word.Static) x.is_static

-- a name alone
abbrev pub OneName : List (List ℕ) → Phrase
OneName [] = nowhere
OneName (n ∷ []) = IsName n
OneName (m ∷ n ∷ ns) = nowhere

-- name | "(" names ")": `k`, `(a, b)`
abbrev pub IsPartition : List (List ℕ) → Phrase
IsPartition ns = OneName ns ∣ InParens IsName ns

-- PRIMARY KEY "(" partition {"," name} ")": `PRIMARY KEY ((a, b), c)`
abbrev pub IsPrimaryKey : PrimaryKey → Phrase
IsPrimaryKey x =
    keyword word.Primary ▸ keyword word.Key ▸ sign mark.OpenParen ▸ IsPartition x.partition ▸ More separator.Comma IsName x.clustering ▸ sign mark.CloseParen

-- what stands between the parentheses of a CREATE TABLE: a column, or the primary key
abbrev pub IsItem : Item → Phrase
IsItem (item.Column c) = IsDefined c
IsItem (item.PrimaryKey k) = IsPrimaryKey k

-- setting ":" setting: `'chunk_length_in_kb': 64`
abbrev pub IsSuboption : Suboption → Phrase
IsSuboption x = IsSetting x.key ▸ sign mark.Colon ▸ IsSetting x.value

-- constant | ratio | "{" setting ":" setting {"," setting ":" setting} "}": `864000`, `0.01`, `{'class': 'LZ4Compressor'}`
abbrev pub IsOptionValue : OptionValue → Phrase
IsOptionValue (option_value.Constant c) = IsConstant c
IsOptionValue (option_value.Ratio n) = one (lexeme.Ratio n)
IsOptionValue (option_value.Suboptions xs) = open_brace ▸ Some_of separator.Comma IsSuboption xs ▸ close_brace

-- name "=" value | CLUSTERING ORDER BY "(" orders ")": `gc_grace_seconds = 864000`
abbrev pub IsOption : TableOption → Phrase
IsOption (table_option.Named o) = IsName o.name ▸ sign mark.Equals ▸ IsOptionValue o.value
IsOption (table_option.ClusteringOrder xs) = keyword word.Clustering ▸ keyword word.Order ▸ keyword word.By ▸ InParens IsColumnOrder xs

-- CREATE TABLE table "(" items ")" [WITH option {AND option}]:
-- `CREATE TABLE t (k int, c int, PRIMARY KEY (k, c)) WITH CLUSTERING ORDER BY (c DESC)`
abbrev pub IsCreate : CreateTable → Phrase
IsCreate x =
    keyword word.Create ▸ keyword word.Table ▸ IsTable x.table ▸ InParens IsItem x.items ▸ Behind (keyword word.With) separator.And IsOption x.options

-- ALTER TABLE table ADD added {"," added}: `ALTER TABLE t ADD v int, s text STATIC`
abbrev pub IsAlter : AlterTable → Phrase
IsAlter x = keyword word.Alter ▸ keyword word.Table ▸ IsTable x.table ▸ keyword word.Add ▸ Some_of separator.Comma IsAdded x.added
