-- Reading INSERT, UPDATE and DELETE, with USING and WHERE.
use Rattle.std.specs.Prelude.{ℕ, ℤ, Bool, true, false, not, List, [], ◌∷◌, Option, None, Some, if◌then◌else◌}
use Rattle.cql_phrases.specs.declared.lexeme.Lexeme.{Lexeme}
use Rattle.cql_phrases.specs.declared.lexeme.Lexeme.TheVariants as lexeme
use Rattle.cql_phrases.specs.declared.keyword.Keyword.TheVariants as word
use Rattle.cql_lex.specs.declared.token.Mark.TheVariants as mark
use Rattle.cql_phrases.specs.declared.lists.Separator.TheVariants as separator
use Rattle.cql_phrases.specs.declared.term.Term.TheVariants as term
use Rattle.cql_changes.specs.declared.syntax.Insert.{Insert}
use Rattle.cql_changes.specs.declared.syntax.Use.{Use}
use Rattle.cql_changes.specs.declared.syntax.Use.TheVariants as «use»
use Rattle.cql_changes.specs.declared.syntax.Update.{Update}
use Rattle.cql_changes.specs.declared.syntax.Assignment.{Assignment}
use Rattle.cql_changes.specs.declared.syntax.Assigned.{Assigned}
use Rattle.cql_changes.specs.declared.syntax.Assigned.TheVariants as assigned
use Rattle.cql_changes.specs.declared.syntax.Delete.{Delete}
use Rattle.cql_changes.specs.declared.syntax.Target.{Target}
use Rattle.cql_changes.specs.declared.syntax.Relation.{Relation}
use Rattle.cql_changes.specs.declared.syntax.Operator.{Operator}
use Rattle.cql_changes.specs.declared.syntax.Operator.TheVariants as operator
use Rattle.cql_phrases.specs.Symbols.{is_reserved}
use Rattle.cql_phrases.specs.Inner.Reading.{Reader, done, and_then, ◌>>=◌, chosen, after_word, after_mark, after_open_bracket, word_at, mark_at}
use Rattle.cql_phrases.specs.Inner.Reading.{close_bracket_at, name_at, whole_number_at, list_at, in_parens, list_behind}
use Rattle.cql_phrases.specs.Inner.TermReading.{constant_at, opens, literal_at, term_at}
use Rattle.cql_tables.specs.Inner.TableReading.{table_at}

-- ---- INSERT

unfoldable pub use_at : Reader Use
use_at l =
    chosen (after_word word.Timestamp l) (do
      n ← whole_number_at
      done («use».Timestamp n)) (and_then (word_at word.Ttl l) (λ _. do
        n ← whole_number_at
        done («use».Ttl n)))

-- each after its first word
unfoldable pub insert_at : Reader Insert
insert_at = do
  _ ← word_at word.Into
  table ← table_at
  columns ← in_parens name_at
  _ ← word_at word.Values
  values ← in_parens term_at
  uses ← list_behind word.Using separator.And use_at
  done (record { table = table; columns = columns; values = values; uses = uses })

-- ---- UPDATE and DELETE

unfoldable pub operator_at : Reader Operator
operator_at (lexeme.Mark mark.Equals ∷ l) = Some (operator.Equal, l)
operator_at (lexeme.Mark mark.Less ∷ l) = Some (operator.Less, l)
operator_at (lexeme.Mark mark.AtMost ∷ l) = Some (operator.AtMost, l)
operator_at (lexeme.Mark mark.Greater ∷ l) = Some (operator.Greater, l)
operator_at (lexeme.Mark mark.AtLeast ∷ l) = Some (operator.AtLeast, l)
operator_at _ = None

unfoldable pub relation_at : Reader Relation
relation_at = do
  column ← name_at
  operator ← operator_at
  value ← term_at
  done (record { column = column; operator = operator; value = value })

unfoldable pub name_comes : List Lexeme → Bool
name_comes (lexeme.Word text ∷ l) = not (is_reserved text)
name_comes (lexeme.Quoted text ∷ l) = true
name_comes _ = false

unfoldable pub entry_assigned : Reader Assigned
entry_assigned = do
  key ← constant_at
  _ ← close_bracket_at
  _ ← mark_at mark.Equals
  value ← term_at
  done (assigned.Entry key value)

unfoldable pub literal_assigned : Reader Assigned
literal_assigned = do
  x ← literal_at
  λ l. chosen (after_mark mark.Plus l) (do
    name ← name_at
    done (assigned.Prepend x name)) (Some (assigned.Whole (term.Literal x), l))

unfoldable pub changed : List ℕ → Reader Assigned
changed name l =
    chosen (after_mark mark.Plus l) (do
      x ← literal_at
      done (assigned.Append name x)) (and_then (mark_at mark.Minus l) (λ _. do
        x ← literal_at
        done (assigned.Remove name x)))

unfoldable pub name_assigned : Reader Assigned
name_assigned = do
  name ← name_at
  changed name

unfoldable pub term_assigned : Reader Assigned
term_assigned = do
  t ← term_at
  done (assigned.Whole t)

unfoldable pub right_side : Reader Assigned
right_side l = if opens l then literal_assigned l else if name_comes l then name_assigned l else term_assigned l

unfoldable pub assigned_at : Reader Assigned
assigned_at l = chosen (after_open_bracket l) entry_assigned (and_then (mark_at mark.Equals l) (λ _. right_side))

unfoldable pub assignment_at : Reader Assignment
assignment_at = do
  column ← name_at
  value ← assigned_at
  done (record { column = column; value = value })

unfoldable pub update_at : Reader Update
update_at = do
  table ← table_at
  uses ← list_behind word.Using separator.And use_at
  _ ← word_at word.Set
  assignments ← list_at separator.Comma assignment_at
  _ ← word_at word.Where
  relations ← list_at separator.And relation_at
  done (record { table = table; uses = uses; assignments = assignments; relations = relations })

unfoldable pub target_at : Reader Target
target_at = do
  column ← name_at
  λ l. chosen (after_open_bracket l) (do
    key ← constant_at
    _ ← close_bracket_at
    done (record { column = column; key = Some key })) (Some (record { column = column; key = None }, l))

unfoldable pub targets_at : Reader (List Target)
targets_at l = chosen (after_word word.From l) (λ r. Some ([], l)) (list_at separator.Comma target_at l)

unfoldable pub timestamp_at : Reader (Option ℤ)
timestamp_at l =
    chosen (after_word word.Using l) (do
      _ ← word_at word.Timestamp
      n ← whole_number_at
      done (Some n)) (Some (None, l))

unfoldable pub delete_at : Reader Delete
delete_at = do
  targets ← targets_at
  _ ← word_at word.From
  table ← table_at
  timestamp ← timestamp_at
  _ ← word_at word.Where
  relations ← list_at separator.And relation_at
  done (record { targets = targets; table = table; timestamp = timestamp; relations = relations })
