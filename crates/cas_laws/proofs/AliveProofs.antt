-- Lists of atoms that show the same in a slice and in the static row answer alike.
use Rattle.std.proofs.Common.{◌≡◌, ℕ, ◌+◌, ℤ, Bool, true, false, cond, not, ◌&&◌, ◌||◌, Option, None, Some, is_some, List, [], ◌∷◌, ◌++◌, map, filter, reverse, slice_get, option_map, refl, sym, ap, ◌∙◌}
use Rattle.std.specs.Bool.{then_some}
use Rattle.std.proofs.lemmas.List.{take-map, reverse-append, map-append}
use Rattle.cas_types.specs.Schemas.{path_type, type_or_blob}
use Rattle.cas_types.specs.declared.schema.Column.{Column}
use Rattle.cas_types.specs.declared.schema.Kind.{Kind}
use Rattle.cas_types.specs.declared.schema.Kind.TheVariants.{Partition, Ascending, Descending, Static, Regular}
use Rattle.cas_types.specs.declared.schema.Shape.{Shape}
use Rattle.cas_types.specs.declared.schema.Shape.TheVariants as shape
use Rattle.cas_cell.specs.Cells.{cell_at, cell_value, cell_lives}
use Rattle.cas_cell.specs.declared.cell.Cell.{Cell}
use Rattle.cas_bounds.specs.Orders.{values_cmp}
use Rattle.cas_bounds.specs.Cuts.{is_inside}
use Rattle.cas_bounds.specs.ClusteringOrder.{clustering_order}
use Rattle.cas_bounds.proofs.CutLaws.{row_orders}
use Rattle.cas_atoms.specs.Coordinates.{RowKey, clustered, static_row, path}
use Rattle.cas_atoms.specs.Winners.{cell_winner}
use Rattle.cas_atoms.specs.RowsAndPaths.{written_row, written_path, path_cmp, is_alive, alive_paths, ordered}
use Rattle.cas_atoms.specs.Picks.{living, plain_cell, cell_bytes, one_or_null, set_or_null, list_or_null, map_or_null, number_or_null, shown_by_shape, value_by_kind, column_value, cell_by_kind, picked_cell, left_of, picked}
use Rattle.cas_atoms.specs.Answers.{is_empty, has_kind, has_cell, is_living, is_shown, is_answered, answered, turned, is_whole, with_static, limited, row_shown, answer}
use Rattle.cas_atoms.specs.declared.atom.Atom.{Atom}
use Rattle.cas_atoms.specs.declared.query.Query.{Query}
use Rattle.cas_atoms.specs.declared.query.LiveRow.{LiveRow}
use Rattle.cas_atoms.specs.declared.query.Pick.{Pick}
use Rattle.cas_atoms.specs.declared.query.Pick.TheVariants.{Value, WriteTime, Ttl}
use Rattle.cas_laws.specs.Inside.{is_in, AliveWhere}
use Rattle.cas_laws.specs.Laws.{RowsAre, PathsAre, RowsAnswer, SameAnswers, SameInAnswers, AliveAnswers}
use Rattle.cas_laws.proofs.OrderedLists.{ordered_is, passing_is, same_filtered}
use Rattle.cas_laws.proofs.ShownProofs.{both_hold, path_written, row_written, path_orders}

-- a cell is alive where there is an alive one
alive_some : (now : ℤ) (c : Option Cell) → is_alive now c ≡ is_some (living now c)
alive_some now None = refl
alive_some now (Some c) = when (cell_lives now c)
  where
    when : (b : Bool) → b ≡ is_some (then_some b c)
    when true = refl
    when false = refl

-- ---- each row shows the same

module _ {inside : RowKey → Bool} {now : ℤ} {A B : List Atom} (same : AliveWhere inside now A B) where
  alive_there : (r : RowKey) (n : ℕ) (p : List ℕ) → inside r ≡ true → is_alive now (cell_winner A (path r n p)) ≡ is_alive now (cell_winner B (path r n p))
  alive_there r n p e = alive_some now (cell_winner A (path r n p)) ∙ ap is_some (same.cells (path r n p) e) ∙ sym (alive_some now (cell_winner B (path r n p)))

  pub alive_where : (r : RowKey) (n : ℕ) (c : Column) → inside r ≡ true → alive_paths A now r n c ≡ alive_paths B now r n c
  alive_where r n c e =
      same_filtered (path_cmp (path_type c.shape c.tag)) (path_orders (path_type c.shape c.tag)) (written_path r n) (written_path r n)
      (λ p. is_alive now (cell_winner A (path r n p))) (λ p. is_alive now (cell_winner B (path r n p))) A B
      (λ p. alive_there r n p e) (path_written A now r n) (path_written B now r n)

  pub has_cell_where : (r : RowKey) (n : ℕ) (columns : List Column) → inside r ≡ true → has_cell A now r n columns ≡ has_cell B now r n columns
  has_cell_where r n [] e = refl
  has_cell_where r n (c ∷ cs) e = λ i. (has_kind r c.kind && not (is_empty (alive_where r n c e i))) || has_cell_where r (n + 1) cs e i

  pub shown_where : (columns : List Column) (c : List (List ℕ)) → inside (clustered c) ≡ true → is_shown A now columns c ≡ is_shown B now columns c
  shown_where columns c e = λ i. same.lives c e i || has_cell_where (clustered c) 0 columns e i

  plain_where : (r : RowKey) (n : ℕ) → inside r ≡ true → plain_cell A now r n ≡ plain_cell B now r n
  plain_where r n e = same.cells (path r n []) e

  shape_where : (s : Shape) (r : RowKey) (n : ℕ) (c : Column) → inside r ≡ true → shown_by_shape s A now r n c ≡ shown_by_shape s B now r n c
  shape_where shape.One r n c e = ap (λ v. one_or_null c.tag (option_map cell_value v)) (plain_where r n e)
  shape_where shape.Set r n c e = ap (set_or_null c.tag) (alive_where r n c e)
  shape_where shape.List r n c e = λ i. list_or_null c.tag (map (λ p. cell_bytes (same.cells (path r n p) e i)) (alive_where r n c e i))
  shape_where shape.Map r n c e = λ i. map_or_null c.tag (type_or_blob c.second) (map (λ p. (p, cell_bytes (same.cells (path r n p) e i))) (alive_where r n c e i))

  module _ (s : inside static_row ≡ true) where
    by_kind_where : (k : Kind) (q : Query) (r : RowKey) (n : ℕ) (c : Column) → inside r ≡ true → value_by_kind k q A now r n c ≡ value_by_kind k q B now r n c
    by_kind_where Partition q r n c e = refl
    by_kind_where Ascending q r n c e = refl
    by_kind_where Descending q r n c e = refl
    by_kind_where Static q r n c e = shape_where c.shape static_row n c s
    by_kind_where Regular q static_row n c e = refl
    by_kind_where Regular q (clustered d) n c e = shape_where c.shape (clustered d) n c e

    value_where : (q : Query) (r : RowKey) (n : ℕ) (c : Option Column) → inside r ≡ true → column_value q A now r n c ≡ column_value q B now r n c
    value_where q r n None e = refl
    value_where q r n (Some c) e = by_kind_where c.kind q r n c e

    cell_by_kind_where : (k : Kind) (r : RowKey) (n : ℕ) → inside r ≡ true → cell_by_kind k A now r n ≡ cell_by_kind k B now r n
    cell_by_kind_where Partition r n e = refl
    cell_by_kind_where Ascending r n e = refl
    cell_by_kind_where Descending r n e = refl
    cell_by_kind_where Static r n e = plain_where static_row n s
    cell_by_kind_where Regular static_row n e = refl
    cell_by_kind_where Regular (clustered d) n e = plain_where (clustered d) n e

    picked_cell_where : (q : Query) (r : RowKey) (n : ℕ) (c : Option Column) → inside r ≡ true → picked_cell q A now r n c ≡ picked_cell q B now r n c
    picked_cell_where q r n None e = refl
    picked_cell_where q r n (Some c) e = cell_by_kind_where c.kind r n e

    picked_where : (q : Query) (r : RowKey) (p : Pick) → inside r ≡ true → picked q A now r p ≡ picked q B now r p
    unfolding picked
    picked_where q r (Value n) e = value_where q r n (slice_get q.columns n) e
    picked_where q r (WriteTime n) e = ap (λ c. number_or_null (option_map cell_at c)) (picked_cell_where q r n (slice_get q.columns n) e)
    picked_where q r (Ttl n) e = ap (λ c. number_or_null (left_of now c)) (picked_cell_where q r n (slice_get q.columns n) e)

    pub row_shown_where : (q : Query) (r : RowKey) → inside r ≡ true → row_shown q A now r ≡ row_shown q B now r
    unfolding row_shown
    row_shown_where q r e = λ i. record { values = map (λ p. picked_where q r p e i) q.picks }

-- ---- the live view, each row with what it shows from the beginning

-- where no row answers, maybe what the static row shows
abbrev pub or_static : Query → List Atom → ℤ → List LiveRow → List LiveRow
or_static q atoms now [] = cond (is_whole q.slice && has_cell atoms now static_row 0 q.columns) (row_shown q atoms now static_row ∷ []) []
or_static q atoms now (r ∷ rs) = r ∷ rs

map_reverse : {X Y : Type 0} (f : X → Y) (xs : List X) → map f (reverse xs) ≡ reverse (map f xs)
map_reverse f [] = refl
map_reverse f (x ∷ xs) =
    ap (map f) (reverse-append (x ∷ []) xs)
    ∙ map-append f (reverse xs) (x ∷ [])
    ∙ ap (λ l. l ++ (f x ∷ [])) (map_reverse f xs)
    ∙ sym (reverse-append (f x ∷ []) (map f xs))

map_turned : {X Y : Type 0} (f : X → Y) (b : Bool) (xs : List X) → map f (turned b xs) ≡ turned b (map f xs)
map_turned f true xs = map_reverse f xs
map_turned f false xs = refl

map_limited : {X Y : Type 0} (f : X → Y) (n : Option ℕ) (xs : List X) → map f (limited n xs) ≡ limited n (map f xs)
map_limited f None xs = refl
map_limited f (Some n) xs = sym (take-map f n xs)

map_clustered : {Y : Type 0} (f : RowKey → Y) (cs : List (List (List ℕ))) → map f (map clustered cs) ≡ map (λ c. f (clustered c)) cs
map_clustered f [] = refl
map_clustered f (c ∷ cs) = ap (λ l. f (clustered c) ∷ l) (map_clustered f cs)

map_where : {X : Type 0} (f : X → LiveRow) (b : Bool) (x : X) → map f (cond b (x ∷ []) []) ≡ cond b (f x ∷ []) []
map_where f true x = refl
map_where f false x = refl

map_static : (q : Query) (A : List Atom) (now : ℤ) (rows : List (List (List ℕ))) → map (row_shown q A now) (with_static q A now rows) ≡ or_static q A now (map (λ c. row_shown q A now (clustered c)) rows)
map_static q A now [] = map_where (row_shown q A now) (is_whole q.slice && has_cell A now static_row 0 q.columns) static_row
map_static q A now (c ∷ cs) = map_clustered (row_shown q A now) (c ∷ cs)

pub answer_is : (q : Query) (A : List Atom) (now : ℤ) → answer q A now ≡ limited q.limit (or_static q A now (turned q.reversed (map (λ c. row_shown q A now (clustered c)) (answered q A now))))
unfolding answer
answer_is q A now =
    map_limited (row_shown q A now) q.limit (with_static q A now (turned q.reversed (answered q A now)))
    ∙ ap (limited q.limit) (map_static q A now (turned q.reversed (answered q A now)) ∙ ap (or_static q A now) (map_turned (λ c. row_shown q A now (clustered c)) q.reversed (answered q A now)))

-- ---- lists that show the same in a slice answer alike in it

map_filter : {X Y : Type 0} (f g : X → Y) (t : X → Bool) → ((x : X) → t x ≡ true → f x ≡ g x) → (xs : List X) → map f (filter t xs) ≡ map g (filter t xs)
map_filter f g t h [] = refl
map_filter f g t h (x ∷ xs) =
    elim (t x) as (λ b. t x ≡ b → map f (cond b (x ∷ filter t xs) (filter t xs)) ≡ map g (cond b (x ∷ filter t xs) (filter t xs))) [
      | true ↦ λ e i. h x e i ∷ map_filter f g t h xs i
      | false ↦ λ e. map_filter f g t h xs
    ] refl

module _ (q : Query) {A B : List Atom} {now : ℤ} (same : AliveWhere (is_in q.slice) now A B) where
  agree : (c : List (List ℕ)) → is_answered q A now c ≡ is_answered q B now c
  agree c =
      elim (is_inside q.slice.lo q.slice.hi c) as (λ b. is_inside q.slice.lo q.slice.hi c ≡ b → (b && is_shown A now q.columns c) ≡ (b && is_shown B now q.columns c)) [
        | true ↦ λ e. shown_where same q.columns c e
        | false ↦ λ e. refl
      ] refl

  same_rows : answered q A now ≡ answered q B now
  unfolding answered
  same_rows =
      same_filtered (values_cmp (clustering_order q.columns)) (row_orders (clustering_order q.columns)) written_row written_row (is_answered q A now) (is_answered q B now) A B
      agree
      (λ c e. row_written A now q.columns c (both_hold _ _ e).1)
      (λ c e. row_written B now q.columns c (both_hold _ _ e).1)

  shown_alike : map (λ c. row_shown q A now (clustered c)) (answered q A now) ≡ map (λ c. row_shown q B now (clustered c)) (answered q A now)
  unfolding answered
  shown_alike =
      map_filter (λ c. row_shown q A now (clustered c)) (λ c. row_shown q B now (clustered c)) (is_answered q A now)
      (λ c e. row_shown_where same refl q (clustered c) (both_hold _ _ e).0)
      (ordered (values_cmp (clustering_order q.columns)) written_row A)

  same_static : (rows : List LiveRow) → or_static q A now rows ≡ or_static q B now rows
  same_static [] = λ i. cond (is_whole q.slice && has_cell_where same static_row 0 q.columns refl i) (row_shown_where same refl q static_row refl i ∷ []) []
  same_static (r ∷ rs) = refl

  pub alive_answer : answer q A now ≡ answer q B now
  alive_answer =
      answer_is q A now
      ∙ ap (λ rows. limited q.limit (or_static q A now (turned q.reversed rows))) (shown_alike ∙ ap (map (λ c. row_shown q B now (clustered c))) same_rows)
      ∙ ap (limited q.limit) (same_static (turned q.reversed (map (λ c. row_shown q B now (clustered c)) (answered q B now))))
      ∙ sym (answer_is q B now)

pub alive_answers : AliveAnswers
alive_answers A B q now same = alive_answer q same

pub same_in_answers : SameInAnswers
same_in_answers A B q same now = alive_answer q (record { lives = λ r e. ap (is_living now) (same.lives r e); cells = λ x e. ap (living now) (same.cells x e) })

pub same_answers : SameAnswers
same_answers A B same q now = same_in_answers A B q (record { covers = λ x e. same.covers x; lives = λ r e. same.lives r; cells = λ x e. same.cells x }) now

-- ---- which rows and which paths there are

pub rows_are : RowsAre
rows_are order atoms rows = ordered_is (values_cmp order) (row_orders order) written_row atoms rows

pub paths_are : PathsAre
paths_are atoms now r n column paths =
    passing_is (path_cmp (path_type column.shape column.tag)) (path_orders (path_type column.shape column.tag)) (written_path r n)
    (λ p. is_alive now (cell_winner atoms (path r n p))) atoms (path_written atoms now r n) paths

pub rows_answer : RowsAnswer
unfolding answered
rows_answer q atoms now rows =
    passing_is (values_cmp (clustering_order q.columns)) (row_orders (clustering_order q.columns)) written_row (is_answered q atoms now) atoms
    (λ c e. row_written atoms now q.columns c (both_hold _ _ e).1) rows
