-- What is printed of a collection is a literal, and its elements are the collection's.
use Rattle.std.proofs.Common.{◌≡◌, ℕ, ◌+◌, Bool, true, ◌&&◌, List, [], ◌∷◌, ◌++◌, length, map, flat_map, Option, None, Some, refl, sym, subst, ap, ◌∙◌, codes, append_assoc}
use Rattle.std.specs.Prelude.{is_some}
use Rattle.std.specs.List.{list_all, filter_map, join_by, AllByRecursion}
use Rattle.cas_types.specs.declared.tag.TypeTag.{TypeTag}
use Rattle.cas_render.specs.Text.{value_text, entry_text}
use Rattle.cas_terms.specs.Terms.{literal_value, entry_value, entry_from}
use Rattle.cql_lex.specs.Rules.{piece_at, token, gap}
use Rattle.cql_lex.specs.declared.token.Mark.TheVariants as mark
use Rattle.cql_lex.specs.declared.token.TokenKind.TheVariants as kind
use Rattle.cql_phrases.specs.declared.lexeme.Lexeme.{Lexeme}
use Rattle.cql_phrases.specs.declared.lexeme.Lexeme.TheVariants as lexeme
use Rattle.cql_phrases.specs.declared.lists.Separator.TheVariants as separator
use Rattle.cql_phrases.specs.declared.term.Element.{Element}
use Rattle.cql_phrases.specs.declared.term.Element.TheVariants as element
use Rattle.cql_phrases.specs.declared.term.Entry.{Entry}
use Rattle.cql_phrases.specs.Phrases.{Phrase, More, Some_of, IsElement, IsEntry}
use Rattle.cql_phrases.specs.Lexemes.{lexeme_of}
use Rattle.cql_laws.specs.ReadsBack.{IsValue}
use Rattle.cql_laws.proofs.Scans.{Scanned, scan_end, scan_token, scan_gap}
use Rattle.cql_laws.proofs.Fronts.{Ending, after, nothing, comma, colon, bracket, brace, mark_piece}
use Rattle.cql_laws.proofs.Values.{Shown, shown}

-- each thing that is printed, and what is read of it
abbrev pub Each : {X A : Type 0} → (X → A → Type 0) → List X → List A → Type 0
Each R [] [] = Unit {0}
Each R (x ∷ xs) (y ∷ ys) = R x y × Each R xs ys
Each R [] (y ∷ ys) = ⊥
Each R (x ∷ xs) [] = ⊥

-- a thing of this text is read as the phrase of another, whatever follows
pub record Item {X A : Type 0} (P : A → Phrase) (f : X → List ℕ) (R : X → A → Type 0) (x : X) : Type 0 where
  pub thing : A
  pub same : R x thing
  pub scan : (front : List ℕ) (e : Ending) (s : List ℕ) (ys : List Lexeme) → Scanned (front ++ f x) (after e s) ys → (zs : List Lexeme) × Scanned front (f x ++ after e s) zs × P thing zs ys

abbrev IsReadAs : TypeTag → List ℕ → Element → Type 0
IsReadAs t v a = literal_value t a ≡ Some v

pub element_item : (t : TypeTag) (v : List ℕ) → IsValue t v → Item IsElement (value_text t) (λ w a. literal_value t a ≡ Some w) v
unfolding literal_value
element_item t v h =
    let p = shown t v h in
    record {
      thing = element.Constant p.constant;
      same = p.bytes;
      scan = λ front e s ys g. (
        p.printed.lexeme ∷ ys,
        scan_token front (value_text t v) (after e s) p.printed.kind p.printed.lexeme ys (p.printed.piece e s) (p.printed.means _ _) g,
        p.printed.grammar ys,
      );
    }

blank : (front rest : List ℕ) (ys : List Lexeme) → Scanned (front ++ 32 ∷ []) rest ys → Scanned front (32 ∷ rest) ys
unfolding piece_at
blank front rest ys h = scan_gap front (32 ∷ []) rest ys refl h

colon_sign : (front rest : List ℕ) (ys : List Lexeme) → Scanned (front ++ 58 ∷ []) rest ys → Scanned front (58 ∷ rest) (lexeme.Mark mark.Colon ∷ ys)
unfolding lexeme_of
colon_sign front rest ys h =
    scan_token front (58 ∷ []) rest (kind.Mark mark.Colon) (lexeme.Mark mark.Colon) ys (mark_piece 58 mark.Colon rest refl refl refl refl refl refl refl refl refl refl refl refl) refl h

comma_sign : (front rest : List ℕ) (ys : List Lexeme) → Scanned (front ++ 44 ∷ []) rest ys → Scanned front (44 ∷ rest) (lexeme.Mark mark.Comma ∷ ys)
unfolding lexeme_of
comma_sign front rest ys h =
    scan_token front (44 ∷ []) rest (kind.Mark mark.Comma) (lexeme.Mark mark.Comma) ys (mark_piece 44 mark.Comma rest refl refl refl refl refl refl refl refl refl refl refl refl) refl h

regroup : (front k w : List ℕ) (a b : ℕ) → front ++ (k ++ (a ∷ b ∷ w)) ≡ (((front ++ k) ++ a ∷ []) ++ b ∷ []) ++ w
regroup front k w a b = simp append_assoc refl

pub entry_item : (t u : TypeTag) (e : List ℕ × List ℕ) → IsValue t e.0 × IsValue u e.1 → Item IsEntry (entry_text t u) (λ d a. entry_value t u a ≡ Some (d.0, Some d.1)) e
unfolding entry_value literal_value
entry_item t u e h =
    let p = shown t e.0 h.0 in
    let q = shown u e.1 h.1 in
    let k = value_text t e.0 in
    let w = value_text u e.1 in
    let is : entry_text t u e ≡ k ++ (58 ∷ 32 ∷ w) = append_assoc k (58 ∷ 32 ∷ []) w in
    record {
      thing = record { key = element.Constant p.constant; value = element.Constant q.constant };
      same = rw (p.bytes, q.bytes) refl;
      scan = λ front d s ys g.
          let last = scan_token (((front ++ k) ++ 58 ∷ []) ++ 32 ∷ []) w (after d s) q.printed.kind q.printed.lexeme ys (q.printed.piece d s) (q.printed.means _ _)
          (subst (λ r. Scanned r (after d s) ys) (ap (λ x. front ++ x) is ∙ regroup front k w 58 32) g) in
          let signed = colon_sign (front ++ k) (32 ∷ (w ++ after d s)) _ (blank ((front ++ k) ++ 58 ∷ []) (w ++ after d s) _ last) in
          let whole = scan_token front k (after colon (32 ∷ (w ++ after d s))) p.printed.kind p.printed.lexeme _ (p.printed.piece colon (32 ∷ (w ++ after d s))) (p.printed.means _ _) signed in (
            p.printed.lexeme ∷ lexeme.Mark mark.Colon ∷ q.printed.lexeme ∷ ys,
            subst (λ r. Scanned front r (p.printed.lexeme ∷ lexeme.Mark mark.Colon ∷ q.printed.lexeme ∷ ys)) (sym (append_assoc k (58 ∷ 32 ∷ w) (after d s)) ∙ ap (λ x. x ++ after d s) (sym is)) whole,
            (lexeme.Mark mark.Colon ∷ q.printed.lexeme ∷ ys, p.printed.grammar _, (q.printed.lexeme ∷ ys, refl, q.printed.grammar ys)),
          );
    }

-- ---- several

-- the bracket that closes
pub data Closing : Type 0 where
  by_bracket : Closing
  by_brace : Closing

abbrev pub code : Closing → ℕ
code by_bracket = 93
code by_brace = 125

abbrev pub closing : Closing → ℕ → Lexeme
closing by_bracket at = lexeme.CloseBracket at
closing by_brace at = lexeme.CloseBrace at

-- the closing bracket alone
pub close : (b : Closing) (front : List ℕ) → Scanned front (code b ∷ []) (closing b (length front + 1) ∷ [])
unfolding lexeme_of
close by_bracket front =
    scan_token front (93 ∷ []) [] (kind.Mark mark.CloseBracket) (lexeme.CloseBracket (length front + 1)) [] (mark_piece 93 mark.CloseBracket [] refl refl refl refl refl refl refl refl refl refl refl refl) refl (scan_end _)
close by_brace front =
    scan_token front (125 ∷ []) [] (kind.Mark mark.CloseBrace) (lexeme.CloseBrace (length front + 1)) [] (mark_piece 125 mark.CloseBrace [] refl refl refl refl refl refl refl refl refl refl refl refl) refl (scan_end _)

module _ {X A : Type 0} (P : A → Phrase) (f : X → List ℕ) (R : X → A → Type 0) (Good : X → Type 0) (make : (x : X) → Good x → Item P f R x) (b : Closing) where
  -- what stands behind a thing: the others, and the closing bracket
  abbrev behind : List X → List ℕ
  behind [] = code b ∷ []
  behind (x ∷ xs) = 44 ∷ 32 ∷ (f x ++ behind xs)

  closes : (c : Closing) → (e : Ending) × (s : List ℕ) × (code c ∷ [] ≡ after e s)
  closes by_bracket = (bracket, [], refl)
  closes by_brace = (brace, [], refl)

  ends : (xs : List X) → (e : Ending) × (s : List ℕ) × (behind xs ≡ after e s)
  ends [] = closes b
  ends (x ∷ xs) = (comma, 32 ∷ (f x ++ behind xs), refl)

  record Others (front : List ℕ) (xs : List X) : Type 0 where
    things : List A
    place : ℕ
    lexemes : List Lexeme
    scanned : Scanned front (behind xs) lexemes
    grammar : More separator.Comma P things lexemes (closing b place ∷ [])
    same : Each R xs things

  -- one thing, with what stands behind it
  one : (front : List ℕ) (x : X) (xs : List X) (i : Item P f R x) (ys : List Lexeme) → Scanned (front ++ f x) (behind xs) ys → (zs : List Lexeme) × Scanned front (f x ++ behind xs) zs × P i.thing zs ys
  one front x xs i ys h =
      let t = ends xs in
      let r = i.scan front t.0 t.1 ys (subst (λ s. Scanned (front ++ f x) s ys) t.2 h) in
      (r.0, subst (λ s. Scanned front (f x ++ s) r.0) (sym t.2) r.1, r.2)

  others : (front : List ℕ) (xs : List X) → AllByRecursion Good xs → Others front xs
  others front [] g = record { things = []; place = length front + 1; lexemes = closing b (length front + 1) ∷ []; scanned = close b front; grammar = refl; same = tt }
  others front (x ∷ xs) g =
      let front3 = (front ++ 44 ∷ []) ++ 32 ∷ [] in
      let i = make x g.0 in
      let r = others (front3 ++ f x) xs g.1 in
      let z = one front3 x xs i r.lexemes r.scanned in
      record {
        things = i.thing ∷ r.things;
        place = r.place;
        lexemes = lexeme.Mark mark.Comma ∷ z.0;
        scanned = comma_sign front (32 ∷ (f x ++ behind xs)) z.0 (blank (front ++ 44 ∷ []) (f x ++ behind xs) z.0 z.1);
        grammar = (z.0, refl, (r.lexemes, z.2, r.grammar));
        same = (i.same, r.same);
      }

  -- as `join_by` writes them
  joined : (xs : List X) → flat_map (λ y. codes ", " ++ f y) xs ++ code b ∷ [] ≡ behind xs
  joined [] = refl
  joined (x ∷ xs) = (λ i. 44 ∷ 32 ∷ append_assoc (f x) (flat_map (λ y. codes ", " ++ f y) xs) (code b ∷ []) i) ∙ (λ i. 44 ∷ 32 ∷ (f x ++ joined xs i))

  pub record Filled (front : List ℕ) (x : X) (xs : List X) : Type 0 where
    pub first : A
    pub more : List A
    pub place : ℕ
    pub lexemes : List Lexeme
    pub scanned : Scanned front (join_by f (codes ", ") (x ∷ xs) ++ code b ∷ []) lexemes
    pub grammar : Some_of separator.Comma P (first ∷ more) lexemes (closing b place ∷ [])
    pub same : Each R (x ∷ xs) (first ∷ more)

  pub filled : (front : List ℕ) (x : X) (xs : List X) → AllByRecursion Good (x ∷ xs) → Filled front x xs
  filled front x xs g =
      let i = make x g.0 in
      let r = others (front ++ f x) xs g.1 in
      let z = one front x xs i r.lexemes r.scanned in
      let text : f x ++ behind xs ≡ (f x ++ flat_map (λ y. codes ", " ++ f y) xs) ++ code b ∷ [] =
      ap (λ s. f x ++ s) (sym (joined xs)) ∙ sym (append_assoc (f x) (flat_map (λ y. codes ", " ++ f y) xs) (code b ∷ [])) in
      record {
        first = i.thing;
        more = r.things;
        place = r.place;
        lexemes = z.0;
        scanned = subst (λ s. Scanned front s z.0) text z.1;
        grammar = (r.lexemes, z.2, r.grammar);
        same = (i.same, r.same);
      }

-- ---- what is read of each

pub each_given : {X A Y : Type 0} (read : A → Option Y) (h : X → Y) (xs : List X) (ys : List A) → Each (λ x y. read y ≡ Some (h x)) xs ys → filter_map read ys ≡ map h xs
each_given read h [] [] e = refl
each_given read h (x ∷ xs) (y ∷ ys) e = rw (e.0, each_given read h xs ys e.1) refl
each_given read h [] (y ∷ ys) e = absurd e
each_given read h (x ∷ xs) [] e = absurd e

pub each_fits : {X A Y : Type 0} (read : A → Option Y) (h : X → Y) (xs : List X) (ys : List A) → Each (λ x y. read y ≡ Some (h x)) xs ys → list_all (λ y. is_some (read y)) ys ≡ true
each_fits read h [] [] e = refl
each_fits read h (x ∷ xs) (y ∷ ys) e = rw (e.0, each_fits read h xs ys e.1) refl
each_fits read h [] (y ∷ ys) e = absurd e
each_fits read h (x ∷ xs) [] e = absurd e
