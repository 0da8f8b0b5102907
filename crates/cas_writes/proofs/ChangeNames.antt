-- Of which columns the effects of a statement are.
use Rattle.std.proofs.Common.{◌≡◌, ℕ, zero, suc, ◌+◌, ◌==◌, Bool, true, false, cond, not, ◌&&◌, ◌||◌, if◌then◌else◌, List, [], ◌∷◌, map, filter, filter_map, fold, length, Option, None, Some, is_some, find, bytes_eq, refl, sym, ap, ◌∙◌, subst, eqb-true, arith}
use Rattle.std.specs.BTreeMap.{insert_entry}
use Rattle.std.specs.Bool.{then_some}
use Rattle.std.specs.List.{cons_option, enumerate_from, flat_map, list_all, list_any, slice_get, zip}
use Rattle.std.specs.Option.{option_map_or}
use Rattle.std.specs.Ordering.{match_ordering}
use Rattle.std.specs.declared.cmp.Ordering.TheVariants.{Less, Equal, Greater}
use Rattle.std.proofs.lemmas.Bool.Decides.{nat_tests}
use Rattle.std.proofs.lemmas.List.Folds.{list_any-append}
use Rattle.std.proofs.lemmas.Slice.Eq.{bytes_eq-Decides}
use Rattle.cas_types.specs.Schemas.{is_key, is_plain, is_list, type_or_blob}
use Rattle.cas_types.specs.Values.{bytes_cmp}
use Rattle.cas_types.specs.declared.schema.Column.{Column}
use Rattle.cas_types.specs.declared.schema.Shape.{Shape}
use Rattle.cas_types.specs.declared.schema.Shape.TheVariants as shape
use Rattle.cas_types.specs.declared.schema.TableSchema.{TableSchema}
use Rattle.cas_types.specs.declared.tag.TypeTag.{TypeTag}
use Rattle.cas_bounds.specs.declared.cuts.Clustering.{Clustering}
use Rattle.cql_parse.specs.declared.term.Constant.{Constant}
use Rattle.cql_parse.specs.declared.term.Element.{Element}
use Rattle.cql_parse.specs.declared.term.Entry.{Entry}
use Rattle.cql_parse.specs.declared.term.Literal.{Literal}
use Rattle.cql_parse.specs.declared.term.Literal.TheVariants as literal
use Rattle.cql_parse.specs.declared.term.Term.{Term}
use Rattle.cql_parse.specs.declared.syntax.Assigned.{Assigned}
use Rattle.cql_parse.specs.declared.syntax.Assigned.TheVariants as assigned
use Rattle.cql_parse.specs.declared.syntax.Relation.{Relation}
use Rattle.cql_parse.specs.declared.syntax.Statement.{Statement}
use Rattle.cql_parse.specs.declared.syntax.Statement.TheVariants as statement
use Rattle.cql_parse.specs.declared.syntax.Target.{Target}
use Rattle.cas_effects.specs.TooLarge.{write_too_large}
use Rattle.cas_effects.specs.WriteLaws.{has_elements, changes_column}
use Rattle.cas_effects.specs.declared.effect.Effect.{Effect}
use Rattle.cas_effects.specs.declared.effect.Effect.TheVariants as effect
use Rattle.cas_effects.specs.declared.effect.Elements.TheVariants as elements
use Rattle.cas_effects.proofs.Written.{write_laws}
use Rattle.cas_terms.specs.Columns.{column_named, located, column_ref}
use Rattle.cas_terms.specs.Constants.{constant_bytes}
use Rattle.cas_terms.specs.Names.{any_two}
use Rattle.cas_terms.specs.Terms.{term_value, literal_value, entry_value, with_entry, by_path, elements_in, entries_in, set_elements, map_elements, given_elements, whole_elements, prepended_elements, removed_elements, entry_elements, is_literal_of, removal_fits, key_fits, assigned_fits}
use Rattle.cas_keys.specs.KeyTerms.{term_in_where}
use Rattle.cas_where.specs.Slices.{slice_of}
use Rattle.cas_where.specs.Where.{is_clustering_free, is_clustering_fixed}
use Rattle.cas_define.specs.IsTable.{IsTable}
use Rattle.cas_reasons.specs.Extents.{inserts_static}
use Rattle.cas_mentions.specs.ColumnFaults.{has_other_count, mention_fits, is_of_another_type}
use Rattle.cas_reasons.specs.RowReasons.{row_reasons}
use Rattle.cas_mentions.specs.Mentions.{Change, assigns, deletes, changes, inserted, changes_of, terms_used}
use Rattle.cas_reasons.specs.Statements.{key_terms_of}
use Rattle.cas_mentions.proofs.Used.{any_map, any_term}
use Rattle.cas_writes.specs.ChangeLaws.{has_parts, changes_something, names_changed, ChangesItsNames}
use Rattle.cas_writes.specs.Changes.{row_for, whole_effect, assigned_effect, deleted_effect, column_effect, outside_key, change_effects, clustered_row, deletion_effect, deletion_effects, live_effect, row_effects, effects_of, bound_change}
use Rattle.cas_writes.proofs.FitChanges.{neither, nor, is_there}
use Rattle.cas_writes.proofs.FitWrites.{Clear, clear}
use Rattle.cas_writes.proofs.RowLemmas.{change_comes}

-- ---- tests

or_false : (b : Bool) → (b || false) ≡ b
or_false true = refl
or_false false = refl

and_true : (b : Bool) → (b && true) ≡ b
and_true true = refl
and_true false = refl

and_false : (b : Bool) → (b && false) ≡ false
and_false true = refl
and_false false = refl

front : (a b : Bool) → (a && b) ≡ true → a ≡ true
front true b e = refl
front false b e = cc

back : (a b : Bool) → (a && b) ≡ true → b ≡ true
back true b e = e
back false b e = cc

as_it_is : (b : Bool) → not b ≡ false → b ≡ true
as_it_is true e = refl
as_it_is false e = cc

-- ---- what has a first

abbrev any_in : {X : Type 0} → List X → Bool
any_in xs = is_some (slice_get xs 0)

mapped : {X Y : Type 0} (f : X → Y) (xs : List X) → any_in (map f xs) ≡ any_in xs
mapped f [] = refl
mapped f (x ∷ xs) = refl

kept : {X Y : Type 0} (f : X → Option Y) (xs : List X) → list_all (λ x. is_some (f x)) xs ≡ true → any_in (filter_map f xs) ≡ any_in xs
kept f [] e = refl
kept f (x ∷ xs) e =
    elim (f x) as (λ o. (is_some o && list_all (λ x. is_some (f x)) xs) ≡ true → any_in (cons_option o (filter_map f xs)) ≡ true) [
      | None ↦ λ is. cc
      | Some y ↦ λ is. refl
    ] e

put : (es : List (List ℕ × Option (List ℕ))) (e : List ℕ × Option (List ℕ)) → any_in (with_entry es e) ≡ true
put [] e = refl
put (d ∷ es) e =
    elim (bytes_cmp e.0 d.0) as (λ r. any_in (match_ordering r ((e.0, e.1) ∷ d ∷ es) ((d.0, e.1) ∷ es) (d ∷ insert_entry bytes_cmp es e.0 e.1)) ≡ true) [
      | Less ↦ refl
      | Equal ↦ refl
      | Greater ↦ refl
    ]

folded : (es acc : List (List ℕ × Option (List ℕ))) → any_in acc ≡ true → any_in (fold with_entry acc es) ≡ true
folded [] acc e = e
folded (d ∷ es) acc e = folded es (with_entry acc d) (put acc d)

sorted : (es : List (List ℕ × Option (List ℕ))) → any_in (by_path es) ≡ any_in es
unfolding by_path
sorted [] = refl
sorted (e ∷ es) = folded es (with_entry [] e) (put [] e)

-- ---- what a literal gives

set_gives : (there : Bool) (tag : TypeTag) (xs : List Element) → list_all (λ x. is_some (literal_value tag x)) xs ≡ true → has_elements (set_elements there tag xs) ≡ any_in xs
unfolding set_elements
set_gives there tag xs e = sorted (map (λ v. (v, then_some there [])) (filter_map (literal_value tag) xs)) ∙ mapped (λ v. (v, then_some there [])) (filter_map (literal_value tag) xs) ∙ kept (literal_value tag) xs e

map_gives : (keys values : TypeTag) (es : List Entry) → list_all (λ e. is_some (entry_value keys values e)) es ≡ true → has_elements (map_elements keys values es) ≡ any_in es
unfolding map_elements
map_gives keys values es e = sorted (filter_map (entry_value keys values) es) ∙ kept (entry_value keys values) es e

module _ (c : Column) where
  of_shape : (s : Shape) (x : Literal) → is_literal_of s c x ≡ true
      → has_elements (elim s [
        | shape.One ↦ elements.At []
        | shape.Set ↦ set_elements true c.tag (elements_in x)
        | shape.List ↦ elements.Appended (filter_map (literal_value c.tag) (elements_in x))
        | shape.Map ↦ map_elements c.tag (type_or_blob c.second) (entries_in x)
      ]) ≡ has_parts x
  unfolding is_literal_of elements_in entries_in
  of_shape shape.One literal.Braces e = cc
  of_shape shape.One (literal.SetOf xs) e = cc
  of_shape shape.One (literal.ListOf xs) e = cc
  of_shape shape.One (literal.MapOf es) e = cc
  of_shape shape.Set literal.Braces e = set_gives true c.tag [] refl
  of_shape shape.Set (literal.SetOf xs) e = set_gives true c.tag xs e ∙ sym (or_false (any_in xs))
  of_shape shape.Set (literal.ListOf xs) e = cc
  of_shape shape.Set (literal.MapOf es) e = cc
  of_shape shape.List literal.Braces e = cc
  of_shape shape.List (literal.SetOf xs) e = cc
  of_shape shape.List (literal.ListOf xs) e = kept (literal_value c.tag) xs e ∙ sym (or_false (any_in xs))
  of_shape shape.List (literal.MapOf es) e = cc
  of_shape shape.Map literal.Braces e = map_gives c.tag (type_or_blob c.second) [] refl
  of_shape shape.Map (literal.SetOf xs) e = cc
  of_shape shape.Map (literal.ListOf xs) e = cc
  of_shape shape.Map (literal.MapOf es) e = map_gives c.tag (type_or_blob c.second) es e

  gives : (x : Literal) → is_literal_of c.shape c x ≡ true → has_elements (given_elements c x) ≡ has_parts x
  unfolding given_elements
  gives x e = of_shape c.shape x e

  puts_before : (s : Shape) (x : Literal) → is_list s ≡ true → is_literal_of s c x ≡ true → has_elements (prepended_elements c.tag x) ≡ has_parts x
  unfolding prepended_elements is_literal_of elements_in entries_in
  puts_before shape.One x is e = cc
  puts_before shape.Set x is e = cc
  puts_before shape.Map x is e = cc
  puts_before shape.List literal.Braces is e = cc
  puts_before shape.List (literal.SetOf xs) is e = cc
  puts_before shape.List (literal.ListOf xs) is e = kept (literal_value c.tag) xs e ∙ sym (or_false (any_in xs))
  puts_before shape.List (literal.MapOf es) is e = cc

  takes : (x : Literal) → is_literal_of shape.Set c x ≡ true → has_elements (removed_elements c.tag x) ≡ has_parts x
  unfolding removed_elements is_literal_of elements_in entries_in
  takes literal.Braces e = set_gives false c.tag [] refl
  takes (literal.SetOf xs) e = set_gives false c.tag xs e ∙ sym (or_false (any_in xs))
  takes (literal.ListOf xs) e = cc
  takes (literal.MapOf es) e = cc

  one_entry : (o v : Option (List ℕ)) → is_some o ≡ true → has_elements (entry_elements o v) ≡ true
  one_entry None v e = cc
  one_entry (Some k) v e = refl

  has_key : (k : Constant) (v : Option (List ℕ)) → key_fits c k ≡ true → has_elements (entry_elements (constant_bytes c.tag k) v) ≡ true
  unfolding key_fits
  has_key k v e = one_entry (constant_bytes c.tag k) v (back _ _ e)

-- ---- the effect of a change

abbrev something : Change → Bool
something (assigns a) = changes_something a
something (deletes k) = true

module _ (row : Clustering) (l : ℕ) (c : Column) (n : ℕ) where
  whole : (t : Term) → changes_column n (whole_effect row l c t) ≡ ((l == n) && true)
  unfolding whole_effect
  whole t =
      elim (is_plain c.shape) as (λ b. changes_column n (if b then effect.Plain (row_for row c) (column_ref l c) (term_value c.tag t) else effect.Whole (row_for row c) (column_ref l c) (whole_elements c t)) ≡ ((l == n) && true)) [
        | true ↦ sym (and_true (l == n))
        | false ↦ sym (and_true (l == n))
      ]

  assigned_it : (a : Assigned) → assigned_fits c a ≡ true → changes_column n (assigned_effect row l c a) ≡ ((l == n) && changes_something a)
  unfolding assigned_effect assigned_fits removal_fits
  assigned_it (assigned.Whole t) e = whole t
  assigned_it (assigned.Append d x) e = ap (λ b. (l == n) && b) (gives c x e)
  assigned_it (assigned.Prepend x d) e = ap (λ b. (l == n) && b) (puts_before c c.shape x (front _ _ e) (back _ _ e))
  assigned_it (assigned.Remove d x) e = ap (λ b. (l == n) && b) (takes c x (back _ _ e))
  assigned_it (assigned.Entry k t) e = ap (λ b. (l == n) && b) (has_key c k (term_value (type_or_blob c.second) t) (front _ _ e))

  deleted_it : (k : Option Constant) → mention_fits c (changes (deletes k)) ≡ true → changes_column n (deleted_effect row l c k) ≡ ((l == n) && true)
  unfolding deleted_effect mention_fits
  deleted_it None e =
      elim (is_plain c.shape) as (λ b. changes_column n (if b then effect.Plain (row_for row c) (column_ref l c) None else effect.Emptied (row_for row c) (column_ref l c)) ≡ ((l == n) && true)) [
        | true ↦ sym (and_true (l == n))
        | false ↦ sym (and_true (l == n))
      ]
  deleted_it (Some k) e = ap (λ b. (l == n) && b) (has_key c k None e)

  changed : (x : Change) → mention_fits c (changes x) ≡ true → changes_column n (column_effect row l c x) ≡ ((l == n) && something x)
  unfolding column_effect mention_fits
  changed (assigns a) e = assigned_it a e
  changed (deletes k) e = deleted_it k e

-- ---- columns by their numbers

module _ (m : List ℕ) where
  told : (cs : List Column) (n : ℕ) (c : Column) → list_any (bytes_eq m) (map (λ c. c.name) cs) ≡ false → slice_get cs n ≡ Some c → bytes_eq m c.name ≡ false
  told [] n c e f = cc
  told (d ∷ cs) zero c e f = let same : d ≡ c = cc in ap (λ d. bytes_eq m d.name) (sym same) ∙ neither _ _ e
  told (d ∷ cs) (suc n) c e f = told cs n c (nor _ _ e) f

abbrev located_from : ℕ → List Column → List ℕ → Option (ℕ × Column)
located_from i cs n = find (λ p. bytes_eq p.1.name n) (enumerate_from i cs)

its_number : (i : ℕ) (cs : List Column) (n : ℕ) (c : Column) → any_two bytes_eq (map (λ c. c.name) cs) ≡ false → slice_get cs n ≡ Some c → located_from i cs c.name ≡ Some (i + n, c)
its_number i [] n c once e = cc
its_number i (d ∷ cs) zero c once e =
    let same : d ≡ c = cc in
    let none : i ≡ i + 0 = omega arith in
    ap (λ b. if b then Some (i, d) else located_from (i + 1) cs c.name) ((bytes_eq-Decides d.name c.name).1 (ap (λ d. d.name) same)) ∙ (λ j. Some (none j, same j))
its_number i (d ∷ cs) (suc n) c once e =
    let next : (i + 1) + n ≡ i + suc n = omega arith in
    ap (λ b. if b then Some (i, d) else located_from (i + 1) cs c.name) (told d.name cs n c (neither _ _ once) e) ∙ its_number (i + 1) cs n c (nor _ _ once) e
    ∙ ap (λ k. Some (k, c)) next

module _ (t : TableSchema) (is : IsTable t) (n : ℕ) where
  -- the column at the number is outside of the key and has the name
  abbrev here : List ℕ → Bool → Bool
  here m b = option_map_or (λ c. not (is_key c.kind) && (bytes_eq c.name m && b)) (slice_get t.columns n) false

  elsewhere : (m : List ℕ) (b : Bool) → ((c : Column) → slice_get t.columns n ≡ Some c → bytes_eq c.name m ≡ true → Unit {0} → not (is_key c.kind) ≡ false) → here m b ≡ false
  elsewhere m b never = by (slice_get t.columns n) refl
    where
      by : (o : Option Column) → slice_get t.columns n ≡ o → option_map_or (λ c. not (is_key c.kind) && (bytes_eq c.name m && b)) o false ≡ false
      by None e = refl
      by (Some c) e =
          elim (bytes_eq c.name m) as (λ q. bytes_eq c.name m ≡ q → (not (is_key c.kind) && (q && b)) ≡ false) [
            | true ↦ λ f. ap (λ k. k && b) (never c e f tt)
            | false ↦ λ f. and_false (not (is_key c.kind))
          ] refl

  found : (m : List ℕ) (c : Column) → slice_get t.columns n ≡ Some c → bytes_eq c.name m ≡ true → located t.columns m ≡ Some (n, c)
  found m c e f =
      let none : 0 + n ≡ n = omega arith in
      subst (λ m. located t.columns m ≡ Some (n, c)) ((bytes_eq-Decides c.name m).0 f) (its_number 0 t.columns n c is.once e ∙ ap (λ k. Some (k, c)) none)

  unnamed : (m : List ℕ) (b : Bool) → located t.columns m ≡ None → here m b ≡ false
  unnamed m b none = elsewhere m b (λ c e f u. let some : located t.columns m ≡ Some (n, c) = found m c e f in cc)

  passes : (cs : List Column) (m : List ℕ) (c : Column) → column_named cs m ≡ Some c → bytes_eq c.name m ≡ true
  unfolding column_named
  passes [] m c e = cc
  passes (d ∷ cs) m c e =
      elim (bytes_eq d.name m) as (λ b. bytes_eq d.name m ≡ b → cond b (Some d) (find (λ c. bytes_eq c.name m) cs) ≡ Some c → bytes_eq c.name m ≡ true) [
        | true ↦ λ f g. let same : d ≡ c = cc in ap (λ d. bytes_eq d.name m) (sym same) ∙ f
        | false ↦ λ f g. passes cs m c g
      ] refl e

  at_it : (m : List ℕ) (b : Bool) (l : ℕ × Column) → located t.columns m ≡ Some l → here m b ≡ ((l.0 == n) && (not (is_key l.1.kind) && b))
  at_it m b l e =
      let there = is_there t.columns m l e in
      elim (l.0 == n) as (λ q. (l.0 == n) ≡ q → here m b ≡ (q && (not (is_key l.1.kind) && b))) [
        | true ↦ λ f.
            let same : l.0 ≡ n = eqb-true l.0 n f in
            ap (λ o. option_map_or (λ c. not (is_key c.kind) && (bytes_eq c.name m && b)) o false) (ap (slice_get t.columns) (sym same) ∙ there.0)
            ∙ ap (λ q. not (is_key l.1.kind) && (q && b)) (passes t.columns m l.1 there.1)
        | false ↦ λ f. elsewhere m b (λ c g h u.
            let its : located t.columns m ≡ Some (n, c) = found m c g h in
            let one : l.0 ≡ n = (let pair : l ≡ (n, c) = cc in ap (λ l. l.0) pair) in
            absurd (grind (arith, nat_tests)))
      ] refl

  one_change : (row : Clustering) (p : List ℕ × Change) → is_of_another_type t.columns (p.0, changes p.1) ≡ false
      → list_any (changes_column n) (change_effects t.columns row p) ≡ here p.0 (something p.1)
  unfolding change_effects is_of_another_type
  one_change row p right = by (located t.columns p.0) refl
    where
      by : (o : Option (ℕ × Column)) → located t.columns p.0 ≡ o → list_any (changes_column n) (outside_key (λ n c. column_effect row n c p.1) o) ≡ here p.0 (something p.1)
      by None e = sym (unnamed p.0 (something p.1) e)
      by (Some l) e =
          let fits : mention_fits l.1 (changes p.1) ≡ true =
          as_it_is (mention_fits l.1 (changes p.1)) (ap (λ o. option_map_or (λ c. not (mention_fits c (changes p.1))) o false) (sym (is_there t.columns p.0 l e).1) ∙ right) in
          elim (is_key l.1.kind) as (λ k. is_key l.1.kind ≡ k → list_any (changes_column n) (if k then [] else column_effect row l.0 l.1 p.1 ∷ []) ≡ here p.0 (something p.1)) [
            | true ↦ λ f. sym (at_it p.0 (something p.1) l e ∙ ap (λ k. (l.0 == n) && (not k && something p.1)) f ∙ and_false (l.0 == n))
            | false ↦ λ f. or_false _ ∙ changed row l.0 l.1 n p.1 fits ∙ sym (at_it p.0 (something p.1) l e ∙ ap (λ k. (l.0 == n) && (not k && something p.1)) f)
          ] refl

  all_changes : (row : Clustering) (ps : List (List ℕ × Change)) → list_any (λ p. is_of_another_type t.columns (p.0, changes p.1)) ps ≡ false
      → list_any (changes_column n) (flat_map (change_effects t.columns row) ps) ≡ list_any (λ p. here p.0 (something p.1)) ps
  all_changes row [] right = refl
  all_changes row (p ∷ ps) right =
      list_any-append (changes_column n) (change_effects t.columns row p) (flat_map (change_effects t.columns row) ps)
      ∙ (λ j. one_change row p (neither _ _ right) j || all_changes row ps (nor _ _ right) j)

  -- ---- what becomes of rows is of no column

  removes_none : (rs : List Relation) → changes_column n (deletion_effect t.columns rs) ≡ false
  unfolding deletion_effect
  removes_none rs =
      elim (is_clustering_free rs t.columns) as (λ b. changes_column n (if b then effect.Partition else rows) ≡ false) [
        | true ↦ refl
        | false ↦ elim (is_clustering_fixed rs t.columns) as (λ b. changes_column n (if b then effect.Row (clustered_row (term_in_where rs) t.columns)
            else effect.Range (slice_of t.columns rs).lo (slice_of t.columns rs).hi) ≡ false) [ true ↦ refl | false ↦ refl ]
      ]
    where
      rows : Effect
      rows = if is_clustering_fixed rs t.columns then effect.Row (clustered_row (term_in_where rs) t.columns) else effect.Range (slice_of t.columns rs).lo (slice_of t.columns rs).hi

  no_rows : (s : Statement) → list_any (changes_column n) (row_effects t.columns s) ≡ false
  unfolding row_effects
  no_rows (statement.Insert i) = lives (inserts_static t.columns i.columns) (clustered_row (key_terms_of (statement.Insert i)) t.columns)
    where
      lives : (b : Bool) (row : Clustering) → list_any (changes_column n) (live_effect b row) ≡ false
      lives true row = refl
      lives false row = refl
  no_rows (statement.Delete d) = of_targets d.targets
    where
      of_targets : (xs : List Target) → list_any (changes_column n) (deletion_effects xs (deletion_effect t.columns d.relations)) ≡ false
      of_targets [] = or_false _ ∙ removes_none d.relations
      of_targets (x ∷ xs) = refl
  no_rows (statement.Update u) = refl
  no_rows (statement.Create c) = refl
  no_rows (statement.Alter a) = refl
  no_rows (statement.Select x) = refl

-- ---- the names

module _ (m : List ℕ) where
  chosen : {X : Type 0} (name : X → List ℕ) (test : X → Bool) (xs : List X) → list_any (λ x. bytes_eq m (name x) && test x) xs ≡ list_any (bytes_eq m) (map name (filter test xs))
  chosen name test [] = refl
  chosen name test (x ∷ xs) =
      elim (test x) as (λ b. ((bytes_eq m (name x) && b) || list_any (λ x. bytes_eq m (name x) && test x) xs) ≡ list_any (bytes_eq m) (map name (cond b (x ∷ filter test xs) (filter test xs)))) [
        | true ↦ λ j. and_true (bytes_eq m (name x)) j || chosen name test xs j
        | false ↦ ap (λ b. b || list_any (λ x. bytes_eq m (name x) && test x) xs) (and_false (bytes_eq m (name x))) ∙ chosen name test xs
      ]

  listed : {X : Type 0} (name : X → List ℕ) (xs : List X) → list_any (λ x. bytes_eq m (name x) && true) xs ≡ list_any (bytes_eq m) (map name xs)
  listed name [] = refl
  listed name (x ∷ xs) = λ j. and_true (bytes_eq m (name x)) j || listed name xs j

  given : (ns : List (List ℕ)) (ts : List Term) → length ns ≡ length ts → list_any (λ p. bytes_eq m p.0 && something p.1) (map inserted (zip ns ts)) ≡ list_any (bytes_eq m) ns
  given [] ts e = refl
  given (n ∷ ns) [] e = absurd (omega arith)
  given (n ∷ ns) (t ∷ ts) e = λ j. and_true (bytes_eq m n) j || given ns ts (omega arith) j

  by_names : (s : Statement) → has_other_count s ≡ false → list_any (λ p. bytes_eq m p.0 && something p.1) (changes_of s) ≡ list_any (bytes_eq m) (names_changed s)
  unfolding changes_of has_other_count
  by_names (statement.Insert i) e = given i.columns i.values (eqb-true _ _ (as_it_is _ e))
  by_names (statement.Update u) e = any_map (λ p. bytes_eq m p.0 && something p.1) (λ a. (a.column, assigns a.value)) u.assignments ∙ chosen (λ a. a.column) (λ a. changes_something a.value) u.assignments
  by_names (statement.Delete d) e = any_map (λ p. bytes_eq m p.0 && something p.1) (λ t. (t.column, deletes t.key)) d.targets ∙ listed (λ t. t.column) d.targets
  by_names (statement.Create c) e = refl
  by_names (statement.Alter a) e = refl
  by_names (statement.Select x) e = refl

none_at_all : {X : Type 0} (xs : List X) → list_any (λ x. false) xs ≡ false
none_at_all [] = refl
none_at_all (x ∷ xs) = none_at_all xs

all_or_none : {X : Type 0} (k : Bool) (test : X → Bool) (xs : List X) → list_any (λ x. k && test x) xs ≡ (k && list_any test xs)
all_or_none true test xs = refl
all_or_none false test xs = none_at_all xs

-- ---- the law

names_of : (t : TableSchema) (n : ℕ) (s : Statement) → has_other_count s ≡ false
    → list_any (λ p. option_map_or (λ c. not (is_key c.kind) && (bytes_eq c.name p.0 && something p.1)) (slice_get t.columns n) false) (changes_of s)
    ≡ option_map_or (λ c. not (is_key c.kind) && list_any (bytes_eq c.name) (names_changed s)) (slice_get t.columns n) false
names_of t n s count =
    elim (slice_get t.columns n) as (λ o. list_any (λ p. option_map_or (λ c. not (is_key c.kind) && (bytes_eq c.name p.0 && something p.1)) o false) (changes_of s)
    ≡ option_map_or (λ c. not (is_key c.kind) && list_any (bytes_eq c.name) (names_changed s)) o false) [
      | None ↦ none_at_all (changes_of s)
      | Some c ↦ all_or_none (not (is_key c.kind)) (λ p. bytes_eq c.name p.0 && something p.1) (changes_of s) ∙ ap (λ b. not (is_key c.kind) && b) (by_names c.name s count)
    ]

effects_named : (t : TableSchema) → IsTable t → (n : ℕ) (s : Statement) → has_other_count s ≡ false → list_any (is_of_another_type t.columns) (terms_used s) ≡ false
    → list_any (changes_column n) (effects_of t.columns s) ≡ option_map_or (λ c. not (is_key c.kind) && list_any (bytes_eq c.name) (names_changed s)) (slice_get t.columns n) false
unfolding effects_of
effects_named t is n s count types =
    let row : Clustering = clustered_row (key_terms_of s) t.columns in
    list_any-append (changes_column n) (row_effects t.columns s) (flat_map (change_effects t.columns row) (changes_of s))
    ∙ (λ j. no_rows t is n s j || all_changes t is n row (changes_of s) (neither _ _ (sym (any_term (is_of_another_type t.columns) s) ∙ types)) j)
    ∙ names_of t n s count

pub changes_its_names : ChangesItsNames
unfolding row_reasons bound_change
changes_its_names shards t s w is e drawn moment number n =
    let comes = change_comes shards t s w e in
    let c : Clear (row_reasons t (write_too_large (bound_change shards t s)) s) = clear (row_reasons t (write_too_large (bound_change shards t s)) s) comes.0 in
    let same : bound_change shards t s ≡ w = comes.1 in
    (write_laws w drawn moment number).columns n ∙ ap (λ w. list_any (changes_column n) w.effects) (sym same)
    ∙ effects_named t is n s (neither _ _ (nor _ _ c.bad_definition)) c.wrong_type
