-- The words of the grammar.
-- CQL documentation, "Definitions: identifiers and keywords", "Appendix A: CQL keywords".
use Rattle.std.specs.Prelude.{ℕ, Bool, List, [], ◌∷◌, codes}
use Rattle.std.specs.List.{list_any}
use Rattle.std.specs.Str.{bytes_eq}
use Rattle.cql_phrases.specs.declared.keyword.Keyword.{Keyword}
use Rattle.cql_phrases.specs.declared.keyword.Keyword.TheVariants as word

-- how a word is written, in small letters
unfoldable pub spelling : Keyword → List ℕ
spelling word.Add = codes "add"
spelling word.After = codes "after"
spelling word.Alter = codes "alter"
spelling word.And = codes "and"
spelling word.Asc = codes "asc"
spelling word.Ascii = codes "ascii"
spelling word.BigInt = codes "bigint"
spelling word.Blob = codes "blob"
spelling word.Boolean = codes "boolean"
spelling word.By = codes "by"
spelling word.Clustering = codes "clustering"
spelling word.Create = codes "create"
spelling word.Date = codes "date"
spelling word.Delete = codes "delete"
spelling word.Desc = codes "desc"
spelling word.False = codes "false"
spelling word.From = codes "from"
spelling word.In = codes "in"
spelling word.Insert = codes "insert"
spelling word.Int = codes "int"
spelling word.Into = codes "into"
spelling word.Key = codes "key"
spelling word.Limit = codes "limit"
spelling word.List = codes "list"
spelling word.Map = codes "map"
spelling word.Null = codes "null"
spelling word.Order = codes "order"
spelling word.Page = codes "page"
spelling word.Primary = codes "primary"
spelling word.Select = codes "select"
spelling word.Set = codes "set"
spelling word.SmallInt = codes "smallint"
spelling word.Static = codes "static"
spelling word.Table = codes "table"
spelling word.Text = codes "text"
spelling word.Time = codes "time"
spelling word.Timestamp = codes "timestamp"
spelling word.TimeUuid = codes "timeuuid"
spelling word.TinyInt = codes "tinyint"
spelling word.To = codes "to"
spelling word.True = codes "true"
spelling word.Ttl = codes "ttl"
spelling word.Update = codes "update"
spelling word.Using = codes "using"
spelling word.Uuid = codes "uuid"
spelling word.Values = codes "values"
spelling word.VarChar = codes "varchar"
spelling word.Where = codes "where"
spelling word.With = codes "with"
spelling word.WriteTime = codes "writetime"

-- the words that are no names unless they are quoted
abbrev pub reserved_words : List Keyword
reserved_words =
    word.Add ∷ word.Alter ∷ word.And ∷ word.Asc ∷ word.By ∷ word.Create ∷ word.Delete ∷ word.Desc ∷
    word.False ∷ word.From ∷ word.In ∷ word.Insert ∷ word.Into ∷ word.Limit ∷ word.Null ∷ word.Order ∷
    word.Primary ∷ word.Select ∷ word.Set ∷ word.Table ∷ word.To ∷ word.True ∷ word.Update ∷
    word.Using ∷ word.Where ∷ word.With ∷ []

-- whether a word, in small letters, is reserved: `select` is, `timestamp` is not
unfoldable pub is_reserved : List ℕ → Bool
is_reserved text = list_any (λ k. bytes_eq text (spelling k)) reserved_words
