-- What is printed of a value is read back.
use Rattle.std.proofs.Common.{◌≡◌, ℕ, ◌+◌, Bool, true, ◌&&◌, List, [], ◌∷◌, ◌++◌, length, map, Option, None, Some, refl, sym, subst, ap, ◌∙◌, codes, append_assoc, arith}
use Rattle.std.specs.Prelude.{is_some, IsTrue, ℤ, FitsSigned}
use Rattle.std.specs.Int.{w64}
use Rattle.std.specs.List.{list_all, filter_map, join_by, AllByRecursion}
use Rattle.std.proofs.lemmas.List.{append-nil}
use Rattle.cas_types.specs.Schemas.{is_plain, type_or_blob}
use Rattle.cas_types.specs.declared.tag.TypeTag.{TypeTag}
use Rattle.cas_types.specs.declared.schema.Column.{Column}
use Rattle.cas_types.specs.declared.schema.Shape.TheVariants as shape
use Rattle.cas_atoms.specs.declared.query.Datum.{Datum}
use Rattle.cas_atoms.specs.declared.query.Datum.TheVariants as datum
use Rattle.cas_effects.specs.declared.effect.Elements.TheVariants as elements
use Rattle.cas_render.specs.Text.{datum_text, value_text, entry_text}
use Rattle.cas_terms.specs.Terms.{term_value, literal_value, literal_values, entry_value, elements_in, entries_in, set_elements, map_elements, given_elements, whole_elements, by_path, is_literal_of, term_fits}
use Rattle.cql_lex.specs.Rules.{piece_at}
use Rattle.cql_lex.specs.declared.token.Mark.TheVariants as mark
use Rattle.cql_lex.specs.declared.token.TokenKind.TheVariants as kind
use Rattle.cql_lex.proofs.Scans.{lexes}
use Rattle.cql_phrases.specs.declared.lexeme.Lexeme.{Lexeme}
use Rattle.cql_phrases.specs.declared.lexeme.Lexeme.TheVariants as lexeme
use Rattle.cql_phrases.specs.declared.term.Constant.{Constant}
use Rattle.cql_phrases.specs.declared.term.Constant.TheVariants as constant
use Rattle.cql_phrases.specs.declared.term.Element.{Element}
use Rattle.cql_phrases.specs.declared.term.Entry.{Entry}
use Rattle.cql_phrases.specs.declared.term.Literal.{Literal}
use Rattle.cql_phrases.specs.declared.term.Literal.TheVariants as literal
use Rattle.cql_phrases.specs.declared.term.Term.{Term}
use Rattle.cql_phrases.specs.declared.term.Term.TheVariants as term
use Rattle.cql_phrases.specs.Phrases.{IsTerm, IsElement, IsEntry}
use Rattle.cql_phrases.specs.Lexemes.{lexeme_of}
use Rattle.cql_phrases.specs.Symbols.{spelling}
use Rattle.cql_laws.specs.ReadsBack.{IsValue, IsOfItsTypes, Spells, IsOf, Says, ReadsBack}
use Rattle.cql_laws.proofs.Scans.{Scanned, scan_end, scan_token}
use Rattle.cql_laws.proofs.Fronts.{nothing, name_piece, mark_piece}
use Rattle.cql_laws.proofs.Printed.{printed_number, Printed}
use Rattle.cql_laws.proofs.Values.{shown, small_64}
use Rattle.cql_laws.proofs.Collections.{Each, by_bracket, by_brace, code, closing, close, filled, element_item, entry_item, each_given, each_fits}

-- what is read of the datum
abbrev IsReadBack : Datum → Type 0
IsReadBack d = (x : Term) × Spells (datum_text d) x × Says x d

spells : (text : List ℕ) (x : Term) (ls : List Lexeme) → Scanned [] text ls → IsTerm x ls [] → Spells text x
spells text x ls h g = record { tokens = h.tokens; lexed = lexes text h.tokens h.cut; lexemes = ls; meanings = h.found; grammar = g }

-- a constant alone
alone : (text : List ℕ) (c : Constant) → Printed text c → Spells text (term.Constant c)
alone text c p =
    let whole : Scanned [] (text ++ []) (p.lexeme ∷ []) = scan_token [] text [] p.kind p.lexeme [] (p.piece nothing []) (p.means _ _) (scan_end _) in
    spells text (term.Constant c) (p.lexeme ∷ []) (subst (λ t. Scanned [] t (p.lexeme ∷ [])) (append-nil text) whole) (p.grammar [])

null_back : IsReadBack datum.Null
unfolding datum_text lexeme_of spelling
null_back =
    let whole = scan_token [] (codes "null") [] kind.Name (lexeme.Word (codes "null")) [] (name_piece 110 (codes "ull") 0 nothing [] refl refl (omega arith) refl) refl (scan_end _) in
    (term.Null, spells (codes "null") term.Null (lexeme.Word (codes "null") ∷ []) whole refl, refl)

number_back : (n : ℤ) → FitsSigned w64 n → IsReadBack (datum.Number n)
unfolding datum_text
number_back n h = (term.Constant (constant.Number n), alone _ _ (printed_number n (small_64 n h)), refl)

value_back : (t : TypeTag) (v : List ℕ) → IsValue t v → IsReadBack (datum.One t v)
unfolding datum_text term_fits term_value
value_back t v h =
    let s = shown t v h in
    (term.Constant s.constant, alone _ _ s.printed, λ c i. (rw (i.0, i.1, s.bytes) refl, s.bytes))

-- ---- sets

same_map : {X : Type 0} (xs : List X) → map (λ x. x) xs ≡ xs
same_map [] = refl
same_map (x ∷ xs) = ap (λ ys. x ∷ ys) (same_map xs)

opened_brace : (rest : List ℕ) (ls : List Lexeme) → Scanned (123 ∷ []) rest ls → Scanned [] (123 ∷ rest) (lexeme.OpenBrace 0 ∷ ls)
unfolding lexeme_of
opened_brace rest ls h =
    scan_token [] (123 ∷ []) rest (kind.Mark mark.OpenBrace) (lexeme.OpenBrace 0) ls (mark_piece 123 mark.OpenBrace rest refl refl refl refl refl refl refl refl refl refl refl refl) refl h

opened_bracket : (rest : List ℕ) (ls : List Lexeme) → Scanned (91 ∷ []) rest ls → Scanned [] (91 ∷ rest) (lexeme.OpenBracket 0 ∷ ls)
unfolding lexeme_of
opened_bracket rest ls h =
    scan_token [] (91 ∷ []) rest (kind.Mark mark.OpenBracket) (lexeme.OpenBracket 0) ls (mark_piece 91 mark.OpenBracket rest refl refl refl refl refl refl refl refl refl refl refl refl) refl h

empty_braces : Spells (123 ∷ 125 ∷ []) (term.Literal literal.Braces)
empty_braces =
    spells _ _ _ (opened_brace (125 ∷ []) _ (close by_brace (123 ∷ []))) (lexeme.CloseBrace 2 ∷ [], (0, refl), (2, refl))

empty_brackets : Spells (91 ∷ 93 ∷ []) (term.Literal (literal.ListOf []))
empty_brackets =
    spells _ _ _ (opened_bracket (93 ∷ []) _ (close by_bracket (91 ∷ []))) (lexeme.CloseBracket 2 ∷ [], (0, refl), (2, refl))

set_says : (t : TypeTag) (c : Column) (xs : List Element) (vs : List (List ℕ)) → IsOf c shape.Set t → list_all (λ x. is_some (literal_value t x)) xs ≡ true → literal_values t xs ≡ vs
    → IsTrue (term_fits c (term.Literal (literal.SetOf xs))) × (whole_elements c (term.Literal (literal.SetOf xs)) ≡ elements.At (by_path (map (λ v. (v, Some [])) vs)))
unfolding term_fits whole_elements given_elements set_elements elements_in is_literal_of
set_says t c xs vs i fits values = (
  rw (i.0) (subst (λ u. list_all (λ x. is_some (literal_value u x)) xs ≡ true) (sym i.1) fits),
  rw (i.0) (ap (λ u. elements.At (by_path (map (λ v. (v, Some [])) (literal_values u xs)))) i.1 ∙ ap (λ ws. elements.At (by_path (map (λ v. (v, Some [])) ws))) values),
)

set_back : (t : TypeTag) (vs : List (List ℕ)) → AllByRecursion (IsValue t) vs → IsReadBack (datum.Set t vs)
unfolding datum_text term_fits whole_elements given_elements set_elements elements_in is_literal_of
set_back t [] h = (term.Literal literal.Braces, empty_braces, λ c i. (rw (i.0) refl, rw (i.0) refl))
set_back t (v ∷ vs) h =
    let f = filled IsElement (value_text t) (λ w a. literal_value t a ≡ Some w) (IsValue t) (element_item t) by_brace (123 ∷ []) v vs h in
    let values : literal_values t (f.first ∷ f.more) ≡ v ∷ vs = each_given (literal_value t) (λ w. w) (v ∷ vs) (f.first ∷ f.more) f.same ∙ same_map (v ∷ vs) in
    let fits = each_fits (literal_value t) (λ w. w) (v ∷ vs) (f.first ∷ f.more) f.same in (
      term.Literal (literal.SetOf (f.first ∷ f.more)),
      spells _ _ _ (opened_brace _ f.lexemes f.scanned) (f.lexemes, (0, refl), (closing by_brace f.place ∷ [], f.grammar, (f.place, refl))),
      λ c i. set_says t c _ _ i fits values,
    )

-- ---- lists

list_says : (t : TypeTag) (c : Column) (xs : List Element) (vs : List (List ℕ)) → IsOf c shape.List t → list_all (λ x. is_some (literal_value t x)) xs ≡ true → literal_values t xs ≡ vs
    → IsTrue (term_fits c (term.Literal (literal.ListOf xs))) × (whole_elements c (term.Literal (literal.ListOf xs)) ≡ elements.Appended vs)
unfolding term_fits whole_elements given_elements elements_in is_literal_of
list_says t c xs vs i fits values = (
  rw (i.0) (subst (λ u. list_all (λ x. is_some (literal_value u x)) xs ≡ true) (sym i.1) fits),
  rw (i.0) (ap (λ u. elements.Appended (literal_values u xs)) i.1 ∙ ap elements.Appended values),
)

list_back : (t : TypeTag) (vs : List (List ℕ)) → AllByRecursion (IsValue t) vs → IsReadBack (datum.List t vs)
unfolding datum_text term_fits whole_elements given_elements elements_in is_literal_of
list_back t [] h = (term.Literal (literal.ListOf []), empty_brackets, λ c i. (rw (i.0) refl, rw (i.0) refl))
list_back t (v ∷ vs) h =
    let f = filled IsElement (value_text t) (λ w a. literal_value t a ≡ Some w) (IsValue t) (element_item t) by_bracket (91 ∷ []) v vs h in
    let values : literal_values t (f.first ∷ f.more) ≡ v ∷ vs = each_given (literal_value t) (λ w. w) (v ∷ vs) (f.first ∷ f.more) f.same ∙ same_map (v ∷ vs) in
    let fits = each_fits (literal_value t) (λ w. w) (v ∷ vs) (f.first ∷ f.more) f.same in (
      term.Literal (literal.ListOf (f.first ∷ f.more)),
      spells _ _ _ (opened_bracket _ f.lexemes f.scanned) (f.lexemes, (0, refl), (closing by_bracket f.place ∷ [], f.grammar, (f.place, refl))),
      λ c i. list_says t c _ _ i fits values,
    )

-- ---- maps

map_says : (t u : TypeTag) (c : Column) (xs : List Entry) (es : List (List ℕ × Option (List ℕ))) → IsOf c shape.Map t → type_or_blob c.second ≡ u
    → list_all (λ x. is_some (entry_value t u x)) xs ≡ true → filter_map (entry_value t u) xs ≡ es
    → IsTrue (term_fits c (term.Literal (literal.MapOf xs))) × (whole_elements c (term.Literal (literal.MapOf xs)) ≡ elements.At (by_path es))
unfolding term_fits whole_elements given_elements map_elements entries_in is_literal_of
map_says t u c xs es i s fits entries = (
  rw (i.0) (subst (λ a. list_all (λ x. is_some (entry_value a (type_or_blob c.second) x)) xs ≡ true) (sym i.1) (subst (λ b. list_all (λ x. is_some (entry_value t b x)) xs ≡ true) (sym s) fits)),
  rw (i.0) (ap (λ a. elements.At (by_path (filter_map (entry_value a (type_or_blob c.second)) xs))) i.1 ∙ ap (λ b. elements.At (by_path (filter_map (entry_value t b) xs))) s
      ∙ ap (λ ds. elements.At (by_path ds)) entries),
)

map_back : (t u : TypeTag) (es : List (List ℕ × List ℕ)) → AllByRecursion (λ e. IsValue t e.0 × IsValue u e.1) es → IsReadBack (datum.Map t u es)
unfolding datum_text term_fits whole_elements given_elements map_elements entries_in is_literal_of
map_back t u [] h = (term.Literal literal.Braces, empty_braces, λ c i s. (rw (i.0) refl, rw (i.0) refl))
map_back t u (e ∷ es) h =
    let f = filled IsEntry (entry_text t u) (λ d a. entry_value t u a ≡ Some (d.0, Some d.1)) (λ d. IsValue t d.0 × IsValue u d.1) (entry_item t u) by_brace (123 ∷ []) e es h in
    let entries : filter_map (entry_value t u) (f.first ∷ f.more) ≡ map (λ d. (d.0, Some d.1)) (e ∷ es) = each_given (entry_value t u) (λ d. (d.0, Some d.1)) (e ∷ es) (f.first ∷ f.more) f.same in
    let fits = each_fits (entry_value t u) (λ d. (d.0, Some d.1)) (e ∷ es) (f.first ∷ f.more) f.same in (
      term.Literal (literal.MapOf (f.first ∷ f.more)),
      spells _ _ _ (opened_brace _ f.lexemes f.scanned) (f.lexemes, (0, refl), (closing by_brace f.place ∷ [], f.grammar, (f.place, refl))),
      λ c i s. map_says t u c _ _ i s fits entries,
    )

pub reads_back : ReadsBack
reads_back datum.Null h = null_back
reads_back (datum.Number n) h = number_back n h
reads_back (datum.One t v) h = value_back t v h
reads_back (datum.Set t vs) h = set_back t vs h
reads_back (datum.List t vs) h = list_back t vs h
reads_back (datum.Map t u es) h = map_back t u es h
