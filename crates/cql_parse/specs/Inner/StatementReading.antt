-- Reading SELECT and statements.
use Rattle.std.specs.Prelude.{ℕ, List, [], Option, None, Some, option_and_then}
use Rattle.cql_phrases.specs.declared.lexeme.Lexeme.{Lexeme}
use Rattle.cql_phrases.specs.declared.keyword.Keyword.{Keyword}
use Rattle.cql_phrases.specs.declared.keyword.Keyword.TheVariants as word
use Rattle.cql_lex.specs.declared.token.Mark.TheVariants as mark
use Rattle.cql_phrases.specs.declared.lists.Separator.TheVariants as separator
use Rattle.cql_tables.specs.declared.syntax.ColumnOrder.{ColumnOrder}
use Rattle.cql_parse.specs.declared.syntax.Select.{Select}
use Rattle.cql_parse.specs.declared.syntax.Picks.{Picks}
use Rattle.cql_parse.specs.declared.syntax.Picks.TheVariants as picks
use Rattle.cql_parse.specs.declared.syntax.Pick.{Pick}
use Rattle.cql_parse.specs.declared.syntax.Pick.TheVariants as pick
use Rattle.cql_parse.specs.declared.syntax.Statement.{Statement}
use Rattle.cql_parse.specs.declared.syntax.Statement.TheVariants as statement
use Rattle.cql_lex.specs.declared.token.Token.{Token}
use Rattle.cql_phrases.specs.Lexemes.{lexemes_of}
use Rattle.cql_phrases.specs.Inner.Reading.{Reader, done, and_then, ◌>>=◌, chosen, after_word, after_mark, word_at, mark_at, name_at, list_at, list_behind}
use Rattle.cql_phrases.specs.Inner.Reading.{number_behind, blob_behind}
use Rattle.cql_tables.specs.Inner.TableReading.{table_at, column_order_at, create_at, alter_at, ended}
use Rattle.cql_changes.specs.Inner.ChangeReading.{insert_at, relation_at, update_at, delete_at}

-- ---- SELECT

-- a word with a parenthesis after it
unfoldable pub after_call : Keyword → List Lexeme → Option (List Lexeme)
after_call k l = elim (after_word k l) [ None ↦ None | Some r ↦ after_mark mark.OpenParen r ]

unfoldable pub called : Reader (List ℕ)
called = do
  name ← name_at
  _ ← mark_at mark.CloseParen
  done name

unfoldable pub pick_at : Reader Pick
pick_at l =
    chosen (after_call word.WriteTime l) (do
      name ← called
      done (pick.WriteTime name)) (chosen (after_call word.Ttl l) (do
        name ← called
        done (pick.Ttl name)) (and_then (name_at l) (λ name. done (pick.Value name))))

unfoldable pub picks_at : Reader Picks
picks_at l = chosen (after_mark mark.Star l) (done picks.All) (and_then (list_at separator.Comma pick_at l) (λ xs. done (picks.These xs)))

unfoldable pub order_at : Reader (List ColumnOrder)
order_at l =
    chosen (after_word word.Order l) (do
      _ ← word_at word.By
      list_at separator.Comma column_order_at) (Some ([], l))

unfoldable pub select_at : Reader Select
select_at = do
  picks ← picks_at
  _ ← word_at word.From
  table ← table_at
  relations ← list_behind word.Where separator.And relation_at
  order ← order_at
  after ← blob_behind word.After
  page ← number_behind word.Page
  limit ← number_behind word.Limit
  done (record { picks = picks; table = table; relations = relations; order = order; after = after; page = page; limit = limit })

-- ---- statements

unfoldable pub definition_at : Reader Statement
definition_at l =
    chosen (after_word word.Create l) (do
      x ← create_at
      done (statement.Create x)) (chosen (after_word word.Alter l) (do
        x ← alter_at
        done (statement.Alter x)) None)

unfoldable pub change_at : Reader Statement
change_at l =
    chosen (after_word word.Insert l) (do
      x ← insert_at
      done (statement.Insert x)) (chosen (after_word word.Update l) (do
        x ← update_at
        done (statement.Update x)) (chosen (after_word word.Delete l) (do
          x ← delete_at
          done (statement.Delete x)) (definition_at l)))

unfoldable pub statement_at : Reader Statement
statement_at l =
    chosen (after_word word.Select l) (do
      x ← select_at
      done (statement.Select x)) (change_at l)

unfoldable pub semicolon_at : Reader (Unit {0})
semicolon_at l = chosen (after_mark mark.Semicolon l) (done tt) (Some (tt, l))

unfoldable pub whole_statement : List Lexeme → Option Statement
whole_statement l = ended (and_then (statement_at l) (λ s. do
  _ ← semicolon_at
  done s))

-- the statement that the tokens of a source spell, by reading
unfoldable pub statement_of : List ℕ → List Token → Option Statement
statement_of source tokens = option_and_then whole_statement (lexemes_of source tokens)
