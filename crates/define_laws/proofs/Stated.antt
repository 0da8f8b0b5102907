-- What a CREATE TABLE or an ALTER TABLE ADD names is UTF-8, and an ALTER TABLE ADD names a column at least.
use Rattle.std.proofs.Common.{◌≡◌, ℕ, ◌≤◌, Bool, true, false, ◌&&◌, List, [], ◌∷◌, map, length, Option, None, Some, refl, subst, inl, inr, arith}
use Rattle.std.specs.List.{AllByRecursion}
use Rattle.std.specs.Str.{is_utf8}
use Rattle.cas_types.specs.declared.tag.TypeTag.{TypeTag}
use Rattle.cas_types.specs.declared.tag.TypeTag.TheVariants as tag
use Rattle.cql_lex.specs.declared.token.Token.{Token}
use Rattle.cql_phrases.specs.declared.keyword.Keyword.TheVariants as word
use Rattle.cql_parse.specs.declared.lexeme.Lexeme.{Lexeme}
use Rattle.cql_parse.specs.declared.lexeme.Lexeme.TheVariants as lexeme
use Rattle.cql_phrases.specs.declared.lists.Separator.{Separator}
use Rattle.cql_phrases.specs.declared.lists.Separator.TheVariants as separator
use Rattle.cql_parse.specs.Symbols.{spelling}
use Rattle.cql_parse.specs.Phrases.{Phrase, nothing, one, keyword, IsName, between, More, Some_of, InParens, If, ◌▸◌, ◌∣◌}
use Rattle.cql_parse.specs.Tables.{Qualified, IsNative, IsType, IsDefined, IsAdded, OneName, IsPrimaryKey, IsItem}
use Rattle.cql_parse.specs.declared.syntax.AddedColumn.{AddedColumn}
use Rattle.cql_parse.specs.declared.syntax.AlterTable.{AlterTable}
use Rattle.cql_parse.specs.declared.syntax.ColumnType.{ColumnType}
use Rattle.cql_parse.specs.declared.syntax.ColumnType.TheVariants as column_type
use Rattle.cql_parse.specs.declared.syntax.CreateTable.{CreateTable}
use Rattle.cql_parse.specs.declared.syntax.DefinedColumn.{DefinedColumn}
use Rattle.cql_parse.specs.declared.syntax.Item.{Item}
use Rattle.cql_parse.specs.declared.syntax.Item.TheVariants as item
use Rattle.cql_parse.specs.declared.syntax.PrimaryKey.{PrimaryKey}
use Rattle.cql_parse.specs.declared.syntax.Statement.TheVariants as statement
use Rattle.cql_parse.specs.Means.{Means}
use Rattle.cas_define.specs.CreateTests.{names_defined}
use Rattle.cas_define.specs.Schemas.{column_item, columns_defined}
use Rattle.define_laws.specs.Fits.{AreTexts, StatedTablesFit, StatedColumnsFit}
use Rattle.define_laws.proofs.Tables.{made_table_fits, added_columns_fit}
use Rattle.define_laws.proofs.Texts.{AreText, lexemes_text}

-- ---- what is left after a phrase is text, where what came was

abbrev Keeps : Phrase → Type 0
Keeps p = (l r : List Lexeme) → p l r → AreText l → AreText r

one_keeps : (x : Lexeme) → Keeps (one x)
one_keeps x l r e all = (subst AreText e all).1

nothing_keeps : Keeps nothing
nothing_keeps l r e all = subst AreText e all

then_keeps : (p q : Phrase) → Keeps p → Keeps q → Keeps (p ▸ q)
then_keeps p q first second l r h all = second h.0 r h.2 (first l h.0 h.1 all)

either_keeps : (p q : Phrase) → Keeps p → Keeps q → Keeps (p ∣ q)
either_keeps p q first second l r (inl h) all = first l r h all
either_keeps p q first second l r (inr h) all = second l r h all

if_keeps : (p : Phrase) (b : Bool) → Keeps p → Keeps (If p b)
if_keeps p true keeps = keeps
if_keeps p false keeps = nothing_keeps

name_keeps : (n : List ℕ) → Keeps (IsName n)
name_keeps n l r (inl h) all = one_keeps (lexeme.Word n) l r h.0 all
name_keeps n l r (inr h) all = one_keeps (lexeme.Quoted n) l r h all

name_text : (n : List ℕ) (l r : List Lexeme) → IsName n l r → AreText l → is_utf8 n ≡ true
name_text n l r (inl h) all = (subst AreText h.0 all).0
name_text n l r (inr h) all = (subst AreText h all).0

between_keeps : (s : Separator) → Keeps (between s)
between_keeps separator.Comma = one_keeps _
between_keeps separator.And = one_keeps _

module _ {A : Type 0} (P : A → Phrase) (keeps : (x : A) → Keeps (P x)) where
  more_keeps : (s : Separator) (xs : List A) → Keeps (More s P xs)
  more_keeps s [] l r h all = nothing_keeps l r h all
  more_keeps s (x ∷ xs) l r h all = more_keeps s xs h.2.0 r h.2.2 (keeps x h.0 h.2.0 h.2.1 (between_keeps s l h.0 h.1 all))

  some_keeps : (s : Separator) (xs : List A) → Keeps (Some_of s P xs)
  some_keeps s [] l r h all = absurd h
  some_keeps s (x ∷ xs) l r h all = more_keeps s xs h.0 r h.2 (keeps x l h.0 h.1 all)

  -- what a phrase says of its thing holds of each in a list
  module _ (Q : A → Type 0) (says : (x : A) (l r : List Lexeme) → P x l r → AreText l → Q x) where
    each_more : (s : Separator) (xs : List A) (l r : List Lexeme) → More s P xs l r → AreText l → AllByRecursion Q xs
    each_more s [] l r h all = tt
    each_more s (x ∷ xs) l r h all =
        let text : AreText h.0 = between_keeps s l h.0 h.1 all in
        (says x h.0 h.2.0 h.2.1 text, each_more s xs h.2.0 r h.2.2 (keeps x h.0 h.2.0 h.2.1 text))

    each_of : (s : Separator) (xs : List A) (l r : List Lexeme) → Some_of s P xs l r → AreText l → AllByRecursion Q xs
    each_of s [] l r h all = absurd h
    each_of s (x ∷ xs) l r h all = (says x l h.0 h.1 all, each_more s xs h.0 r h.2 (keeps x l h.0 h.1 all))

some_there : {A : Type 0} (s : Separator) (P : A → Phrase) (xs : List A) (l r : List Lexeme) → Some_of s P xs l r → 1 ≤ length xs
some_there s P [] l r h = absurd h
some_there s P (x ∷ xs) l r h = omega arith

-- ---- columns and keys

native_keeps : (t : TypeTag) → Keeps (IsNative t)
native_keeps tag.Ascii = one_keeps _
native_keeps tag.BigInt = one_keeps _
native_keeps tag.Blob = one_keeps _
native_keeps tag.Boolean = one_keeps _
native_keeps tag.Date = one_keeps _
native_keeps tag.Int = one_keeps _
native_keeps tag.SmallInt = one_keeps _
native_keeps tag.Text = either_keeps _ _ (one_keeps (lexeme.Word (spelling word.Text))) (one_keeps (lexeme.Word (spelling word.VarChar)))
native_keeps tag.Time = one_keeps _
native_keeps tag.Timestamp = one_keeps _
native_keeps tag.TimeUuid = one_keeps _
native_keeps tag.TinyInt = one_keeps _
native_keeps tag.Uuid = one_keeps _

type_keeps : (t : ColumnType) → Keeps (IsType t)
type_keeps (column_type.One t) l r h all = native_keeps t l r h all
type_keeps (column_type.SetOf t) l r h all = one_keeps _ h.2.2.0 r h.2.2.2 (native_keeps t h.2.0 h.2.2.0 h.2.2.1 (one_keeps _ h.0 h.2.0 h.2.1 (one_keeps _ l h.0 h.1 all)))
type_keeps (column_type.ListOf t) l r h all = one_keeps _ h.2.2.0 r h.2.2.2 (native_keeps t h.2.0 h.2.2.0 h.2.2.1 (one_keeps _ h.0 h.2.0 h.2.1 (one_keeps _ l h.0 h.1 all)))
type_keeps (column_type.MapOf k v) l r h all =
    one_keeps _ h.2.2.2.2.0 r h.2.2.2.2.2 (native_keeps v h.2.2.2.0 h.2.2.2.2.0 h.2.2.2.2.1 (one_keeps _ h.2.2.0 h.2.2.2.0 h.2.2.2.1
    (native_keeps k h.2.0 h.2.2.0 h.2.2.1 (one_keeps _ h.0 h.2.0 h.2.1 (one_keeps _ l h.0 h.1 all)))))

defined_keeps : (x : DefinedColumn) → Keeps (IsDefined x)
defined_keeps x l r h all =
    if_keeps (keyword word.Primary ▸ keyword word.Key) x.is_key (then_keeps (keyword word.Primary) (keyword word.Key) (one_keeps _) (one_keeps _)) h.2.2.0 r h.2.2.2
    (if_keeps (keyword word.Static) x.is_static (one_keeps _) h.2.0 h.2.2.0 h.2.2.1 (type_keeps x.column_type h.0 h.2.0 h.2.1 (name_keeps x.name l h.0 h.1 all)))

added_keeps : (x : AddedColumn) → Keeps (IsAdded x)
added_keeps x l r h all = if_keeps (keyword word.Static) x.is_static (one_keeps _) h.2.0 r h.2.2 (type_keeps x.column_type h.0 h.2.0 h.2.1 (name_keeps x.name l h.0 h.1 all))

one_name_keeps : (ns : List (List ℕ)) → Keeps (OneName ns)
one_name_keeps [] l r h all = absurd h
one_name_keeps (n ∷ []) l r h all = name_keeps n l r h all
one_name_keeps (m ∷ n ∷ ns) l r h all = absurd h

names_keep : (ns : List (List ℕ)) → Keeps (InParens IsName ns)
names_keep ns l r h all = one_keeps _ h.2.0 r h.2.2 (some_keeps IsName name_keeps separator.Comma ns h.0 h.2.0 h.2.1 (one_keeps _ l h.0 h.1 all))

key_keeps : (k : PrimaryKey) → Keeps (IsPrimaryKey k)
key_keeps k l r h all =
    one_keeps _ h.2.2.2.2.0 r h.2.2.2.2.2 (more_keeps IsName name_keeps separator.Comma k.clustering h.2.2.2.0 h.2.2.2.2.0 h.2.2.2.2.1
    (either_keeps (OneName k.partition) (InParens IsName k.partition) (one_name_keeps k.partition) (names_keep k.partition) h.2.2.0 h.2.2.2.0 h.2.2.2.1
    (one_keeps _ h.2.0 h.2.2.0 h.2.2.1 (one_keeps _ h.0 h.2.0 h.2.1 (one_keeps _ l h.0 h.1 all)))))

item_keeps : (x : Item) → Keeps (IsItem x)
item_keeps (item.Column c) = defined_keeps c
item_keeps (item.PrimaryKey k) = key_keeps k

table_keeps : (k : Option (List ℕ)) (n : List ℕ) → Keeps (Qualified k n)
table_keeps None n l r h all = name_keeps n l r h all
table_keeps (Some k) n l r h all = name_keeps n h.2.0 r h.2.2 (one_keeps _ h.0 h.2.0 h.2.1 (name_keeps k l h.0 h.1 all))

-- ---- the names of columns

abbrev IsNamed : Item → Type 0
IsNamed (item.Column c) = is_utf8 c.name ≡ true
IsNamed (item.PrimaryKey k) = Unit {0}

item_named : (x : Item) (l r : List Lexeme) → IsItem x l r → AreText l → IsNamed x
item_named (item.Column c) l r h all = name_text c.name l h.0 h.1 all
item_named (item.PrimaryKey k) l r h all = tt

added_named : (x : AddedColumn) (l r : List Lexeme) → IsAdded x l r → AreText l → is_utf8 x.name ≡ true
added_named x l r h all = name_text x.name l h.0 h.1 all

items_texts : (items : List Item) → AllByRecursion IsNamed items → AreTexts (names_defined (columns_defined items))
unfolding columns_defined column_item
items_texts [] all = refl
items_texts (item.Column c ∷ items) all = λ j. all.0 j && items_texts items all.1 j
items_texts (item.PrimaryKey k ∷ items) all = items_texts items all.1

added_texts : (xs : List AddedColumn) → AllByRecursion (λ x. is_utf8 x.name ≡ true) xs → AreTexts (map (λ x. x.name) xs)
added_texts [] all = refl
added_texts (x ∷ xs) all = λ j. all.0 j && added_texts xs all.1 j

module _ (source : List ℕ) (tokens : List Token) where
  created_texts : (c : CreateTable) → Means source tokens (statement.Create c) → AreTexts (names_defined (columns_defined c.items))
  created_texts c m =
      let h = m.grammar.1 in
      let parens = h.2.2.2.1 in
      let before : AreText h.2.2.0 =
      table_keeps c.table.keyspace c.table.name h.2.0 h.2.2.0 h.2.2.1 (one_keeps _ h.0 h.2.0 h.2.1 (one_keeps _ m.lexemes h.0 h.1 (lexemes_text source tokens m.lexemes m.meanings))) in
      items_texts c.items (each_of IsItem item_keeps IsNamed item_named separator.Comma c.items parens.0 parens.2.0 parens.2.1 (one_keeps _ h.2.2.0 parens.0 parens.1 before))

  altered_texts : (a : AlterTable) → Means source tokens (statement.Alter a) → (1 ≤ length a.added) × AreTexts (map (λ x. x.name) a.added)
  altered_texts a m =
      let h = m.grammar.1 in
      let before : AreText h.2.2.2.0 =
      one_keeps _ h.2.2.0 h.2.2.2.0 h.2.2.2.1 (table_keeps a.table.keyspace a.table.name h.2.0 h.2.2.0 h.2.2.1
      (one_keeps _ h.0 h.2.0 h.2.1 (one_keeps _ m.lexemes h.0 h.1 (lexemes_text source tokens m.lexemes m.meanings)))) in (
        some_there separator.Comma IsAdded a.added h.2.2.2.0 m.grammar.0 h.2.2.2.2,
        added_texts a.added (each_of IsAdded added_keeps (λ x. is_utf8 x.name ≡ true) added_named separator.Comma a.added h.2.2.2.0 m.grammar.0 h.2.2.2.2 before),
      )

pub stated_tables_fit : StatedTablesFit
stated_tables_fit source tokens c m tables t e = made_table_fits tables c t (created_texts source tokens c m) e

pub stated_columns_fit : StatedColumnsFit
stated_columns_fit source tokens a m t d is e = let both = altered_texts source tokens a m in added_columns_fit t a d is both.0 both.1 e
