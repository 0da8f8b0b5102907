-- Columns of rows are read exactly.
use Rattle.std.proofs.Common.{◌≡◌, ℕ, ◌<◌, ◌≤◌, ◌^◌, Bool, true, false, cond, not, eqb, leb, ltb, Option, None, Some, List, [], ◌∷◌, ◌++◌, map, length, refl, sym, ap, subst, ◌∙◌, arith}
use Rattle.std.specs.Prelude.{◌||◌, is_some, IfSome}
use Rattle.std.specs.List.{AllByRecursion, flat_map}
use Rattle.std.specs.List.Sorted.{IsStrictlySortedBy}
use Rattle.std.specs.declared.cmp.Ordering.{Ordering}
use Rattle.std.specs.declared.cmp.Ordering.TheVariants.{Less, Equal}
use Rattle.std.specs.Ordering.{nat_cmp}
use Rattle.std.proofs.lemmas.Bool.{eqb-true, le-leb, lt-ltb, and_from}
use Rattle.std.proofs.lemmas.Cmp.{nat_cmp_total, tied_itself}
use Rattle.std.proofs.lemmas.Option.{slice_get_within}
use Rattle.cas_types.specs.Limits.{IsNarrow}
use Rattle.cas_types.specs.Schemas.{is_plain, path_type}
use Rattle.cas_types.specs.declared.schema.Column.{Column}
use Rattle.cas_types.specs.declared.schema.Shape.{Shape}
use Rattle.cas_types.specs.declared.schema.Shape.TheVariants as shape
use Rattle.cas_types.specs.declared.tag.TypeTag.{TypeTag}
use Rattle.cas_types.specs.declared.limits.TheConstants.{COLUMN_LIMIT}
use Rattle.cas_types.specs.declared.schema.Kind.{Kind}
use Rattle.cas_cell.specs.declared.deletion.Deletion.{Deletion}
use Rattle.cas_codec.specs.Reading.{checked, u16_at, u32_at, flag_at, maybe_at}
use Rattle.cas_codec.specs.Fields.{u16, u32, flag, bytes16, maybe}
use Rattle.cas_codec.specs.Exact.{IsExact}
use Rattle.cas_codec.proofs.Exactness.{exact_then, exact_checked, exact_map, exact_as}
use Rattle.cas_codec.proofs.FieldLaws.{u16_field, u32_field, flag_field, maybe_exact}
use Rattle.cas_codec.proofs.Sequences.{exact_two, exact_three}
use Rattle.cas_atoms.specs.Fits.{FitsDeletion, FitsPath, Names, is_path_in, is_path, is_cell_value}
use Rattle.cas_atoms.specs.RowsAndPaths.{path_cmp}
use Rattle.cas_atoms.specs.declared.atom.ColumnRef.{ColumnRef}
use Rattle.cas_atoms.specs.declared.row.PathCell.{PathCell}
use Rattle.cas_atoms.specs.declared.row.RowColumn.{RowColumn}
use Rattle.cas_laws.proofs.ShownProofs.{path_orders}
use Rattle.cas_records.specs.declared.columns.Wanted.{Wanted}
use Rattle.cas_records.specs.Spelling.{deletion_bytes, cell_bytes}
use Rattle.cas_records.specs.Reading.{deletion_at, may_hold, cell_at}
use Rattle.cas_records.specs.Columns.{is_wanted, column_at, path_at}
use Rattle.cas_records.specs.Allowed.{FitsCellOf, IsNamed}
use Rattle.cas_records.proofs.CellLaws.{deletion_exact, cell_exact}
use Rattle.cas_records.proofs.ColumnLaws.{column_exact, path_exact}
use Rattle.cas_streams.specs.Streams.{IsThere}
use Rattle.cas_fragments.specs.Spelling.{path_cell_bytes, cells_bytes, column_bytes, columns_bytes}
use Rattle.cas_fragments.specs.Reading.{is_above, chain_at, next_path_at, path_cell_at, is_count, cells_at, none_at, emptied_at, next_column_at, row_column_at, columns_at}
use Rattle.cas_fragments.specs.Allowed.{FitsPathCell, FitsColumn, FitColumns}
use Rattle.cas_fragments.proofs.ChainLaws.{AreChained, IsChain, exact_chain, chain_sorted, chain_fits, sorted_chain}

-- ---- a cell at its path

abbrev path_order : Column → List ℕ → List ℕ → Ordering
path_order column = path_cmp (path_type column.shape column.tag)

-- a path above the one before it
abbrev IsNextPath : Column → Option (List ℕ) → List ℕ → Type 0
IsNextPath column before p = FitsPath column p × (is_above (path_order column) before p ≡ true)

next_path_exact : (column : Column) (before : Option (List ℕ)) → IsExact (IsNextPath column before) bytes16 (next_path_at column before)
unfolding next_path_at
next_path_exact column before = exact_checked (FitsPath column) bytes16 (path_at column) (is_above (path_order column) before) (path_exact column)

cell_of_exact : (column : Column) → IsExact (FitsCellOf column) cell_bytes (cell_at (may_hold column))
unfolding is_cell_value may_hold
cell_of_exact column = cell_exact (is_cell_value column)

path_of : PathCell → List ℕ
path_of c = c.path

abbrev IsNextCell : Column → Option (List ℕ) → PathCell → Type 0
IsNextCell column before c = FitsPathCell column c × (is_above (path_order column) before c.path ≡ true)

path_cell_exact : (column : Column) (before : Option (List ℕ)) → IsExact (IsNextCell column before) path_cell_bytes (path_cell_at column before)
unfolding path_cell_at
path_cell_exact column before =
    exact_two (IsNextPath column before) bytes16 (next_path_at column before) (λ p v. FitsCellOf column v) cell_bytes (λ p. cell_at (may_hold column))
    (IsNextCell column before) path_cell_bytes (λ p v. record { path = p; cell = v })
    (next_path_exact column before)
    (λ p fit. cell_of_exact column)
    (λ p v fit-p fit-v. (((fit-p.0, fit-v), fit-p.1), refl))
    (λ c fit. (c.path, c.cell, (fit.0.0, fit.1), fit.0.1, refl))

-- ---- cells

abbrev IsCount : Column → Option Deletion → ℕ → Type 0
IsCount column d n = (n < 2 ^ 32) × (is_count column d n ≡ true)

-- cells of the column, as many as it may have under that deletion
abbrev AreCells : Column → Option Deletion → List PathCell → Type 0
AreCells column d cells = IsCount column d (length cells) × AreChained (λ c. c.path) (path_order column) (FitsPathCell column) None cells

cells_exact : (column : Column) (d : Option Deletion) → IsExact (AreCells column d) cells_bytes (cells_at column d)
unfolding cells_at
cells_exact column d =
    exact_then (IsCount column d) u32 (checked (is_count column d) u32_at) (AreCells column d) cells_bytes (λ n cells. length cells ≡ n)
    (λ n cells. flat_map path_cell_bytes cells)
    (λ before n left. chain_at (λ c. c.path) (path_cell_at column) n None left)
    (exact_checked (λ n. n < 2 ^ 32) u32 u32_at (is_count column d) u32_field.exact)
    (λ before n fit-n. exact_as (IsChain (λ c. c.path) (path_order column) (FitsPathCell column) n None) (λ cells. AreCells column d cells × (length cells ≡ n))
    (flat_map path_cell_bytes) (flat_map path_cell_bytes) _ (λ left. chain_at (λ c. c.path) (path_cell_at column) n None left)
    (exact_chain (λ c. c.path) (path_order column) (FitsPathCell column) path_cell_bytes (path_cell_at column) (path_cell_exact column) n None)
    (λ cells fit. ((subst (IsCount column d) (sym fit.0) fit-n, fit.1), fit.0))
    (λ cells fit. (fit.1, fit.0.1)) (λ cells. refl) (λ left. refl))
    (λ cells fit. (length cells, fit.0, refl))
    (λ n cells fit same. ap (λ (m : ℕ). u32 m ++ flat_map path_cell_bytes cells) same)

-- ---- the deletion of all of a column

-- a deletion that a column of that kind may have
abbrev MayEmpty : Bool → Option Deletion → Type 0
MayEmpty plain d = IfSome d FitsDeletion × ((x : Deletion) → d ≡ Some x → plain ≡ false)

abbrev IsNo : Bool → Type 0
IsNo b = Unit {0} × (not b ≡ true)

no_is : (b : Bool) → not b ≡ true → b ≡ false
no_is false e = refl
no_is true e = absurd cc

none_spelled : (b : Bool) → not b ≡ true → maybe deletion_bytes None ≡ flag b
none_spelled b e = ap flag (sym (no_is b e))

never_some : (d : Option Deletion) → MayEmpty true d → None ≡ d
never_some None fit = refl
never_some (Some x) fit = let no : true ≡ false = fit.1 x refl in absurd cc

none_exact : IsExact (MayEmpty true) (maybe deletion_bytes) none_at
unfolding none_at
none_exact =
    exact_map IsNo flag (checked not flag_at) (MayEmpty true) (maybe deletion_bytes) (λ b. None)
    (exact_checked (λ b. Unit {0}) flag flag_at not flag_field.exact)
    (λ b fit. ((tt, λ x e. absurd cc), none_spelled b fit.1))
    (λ d fit. (false, (tt, refl), never_some d fit))

emptied_of : (plain : Bool) → IsExact (MayEmpty plain) (maybe deletion_bytes) (λ left. cond plain (none_at left) (maybe_at deletion_at left))
emptied_of true = none_exact
emptied_of false =
    exact_as (λ d. IfSome d FitsDeletion) (MayEmpty false) (maybe deletion_bytes) (maybe deletion_bytes) _ (maybe_at deletion_at)
    (maybe_exact FitsDeletion deletion_bytes deletion_at deletion_exact)
    (λ d fit. (fit, λ x e. refl)) (λ d fit. fit.0) (λ d. refl) (λ left. refl)

emptied_exact : (column : Column) → IsExact (MayEmpty (is_plain column.shape)) (maybe deletion_bytes) (emptied_at column)
unfolding emptied_at
emptied_exact column = emptied_of (is_plain column.shape)

-- ---- a column

-- a column that is wanted, above the one before it
abbrev IsNextNamed : Wanted → List Column → Option ℕ → ColumnRef × Column → Type 0
IsNextNamed wanted columns before p = IsNamed wanted columns p × (is_above nat_cmp before p.0.number ≡ true)

next_column_exact : (wanted : Wanted) (columns : List Column) (before : Option ℕ)
    → IsExact (IsNextNamed wanted columns before) (λ p. u16 p.0.number) (next_column_at wanted columns before)
unfolding next_column_at
next_column_exact wanted columns before =
    exact_checked (IsNamed wanted columns) (λ p. u16 p.0.number) (column_at wanted columns) (λ p. is_above nat_cmp before p.0.number) (column_exact wanted columns)

-- what is read of a column
abbrev IsRead : Wanted → List Column → Option ℕ → RowColumn → Type 0
IsRead wanted columns before c =
    (p : ColumnRef × Column) × (d : Option Deletion) × (cells : List PathCell) × IsNextNamed wanted columns before p × MayEmpty (is_plain p.1.shape) d
    × AreCells p.1 d cells × (record { column = p.0; deletion = d; cells = cells } ≡ c)

read_exact : (wanted : Wanted) (columns : List Column) (before : Option ℕ) → IsExact (IsRead wanted columns before) column_bytes (row_column_at wanted columns before)
unfolding row_column_at
read_exact wanted columns before =
    exact_three (IsNextNamed wanted columns before) (λ p. u16 p.0.number) (next_column_at wanted columns before)
    (λ p d. MayEmpty (is_plain p.1.shape) d) (maybe deletion_bytes) (λ p. emptied_at p.1)
    (λ p d cells. AreCells p.1 d cells) cells_bytes (λ p d. cells_at p.1 d)
    (IsRead wanted columns before) column_bytes (λ p d cells. record { column = p.0; deletion = d; cells = cells })
    (next_column_exact wanted columns before)
    (λ p fit. emptied_exact p.1)
    (λ p d fit-p fit-d. cells_exact p.1 d)
    (λ p d cells fit-p fit-d fit-c. ((p, d, cells, fit-p, fit-d, fit-c, refl), refl))
    (λ c fit. fit)

-- ---- what is read of a column is what a stream may have

counted : (column : Column) (d : Option Deletion) (cells : List PathCell) → is_count column d (length cells) ≡ true → d ≡ None → IsThere cells
counted column None [] e none = absurd cc
counted column (Some x) [] e none = absurd cc
counted column d (c ∷ cells) e none = tt

each_path : (column : Column) (cells : List PathCell) → AllByRecursion (FitsPathCell column) cells → AllByRecursion (λ c. is_path column c.path ≡ true) cells
each_path column [] fit = tt
each_path column (c ∷ cells) fit = (fit.0.0.1, each_path column cells fit.1)

abbrev FitsNext : (Kind → Bool) → List Column → Option ℕ → RowColumn → Type 0
FitsNext is_of columns before c = FitsColumn is_of columns c × (is_above nat_cmp before c.column.number ≡ true)

read_fits : (is_of : Kind → Bool) (wanted : Wanted) → ((column : Column) → is_wanted wanted column ≡ is_of column.kind) → (columns : List Column)
    (before : Option ℕ) (c : RowColumn) → IsRead wanted columns before c → FitsNext is_of columns before c
read_fits is_of wanted is columns before c fit =
    let (p, d, cells, fit-p, fit-d, fit-c, made) = fit in
    let total = (path_orders (path_type p.1.shape p.1.tag)).total in
    let all = chain_fits (λ x. x.path) (path_order p.1) (FitsPathCell p.1) total None cells fit-c.1 in
    subst (FitsNext is_of columns before) made (
      record {
        of = record {
          column = p.1;
          named = fit-p.0.0;
          kind = sym (is p.1) ∙ fit-p.0.2;
          ascend = chain_sorted (λ x. x.path) (path_order p.1) (FitsPathCell p.1) total None cells fit-c.1;
          paths = each_path p.1 cells all;
          collection = fit-d.1;
          said = λ none. counted p.1 d cells fit-c.0.1 none;
        };
        deletion = fit-d.0;
        cells = all;
        few = fit-c.0.0;
      },
      fit-p.1,
    )

few_columns : (columns : List Column) (ref : ColumnRef) (column : Column) → IsNarrow columns → Names columns ref column → ref.number < 2 ^ 16
few_columns columns ref column narrow named =
    let within = slice_get_within columns ref.number column named.there in
    let most : length columns ≤ COLUMN_LIMIT = narrow in
    omega arith

nothing : (xs : List ℕ) → eqb (length xs) 0 ≡ true → xs ≡ []
nothing [] e = refl
nothing (x ∷ xs) e = let none : length (x ∷ xs) ≡ 0 = eqb-true (length (x ∷ xs)) 0 e in absurd (omega arith)

plain_path : (s : Shape) (tag : TypeTag) (bytes : List ℕ) → is_plain s ≡ true → is_path_in s tag bytes ≡ true → bytes ≡ []
plain_path shape.One tag bytes plain e = nothing bytes e
plain_path shape.Set tag bytes plain e = absurd cc
plain_path shape.List tag bytes plain e = absurd cc
plain_path shape.Map tag bytes plain e = absurd cc

plain_paths : (column : Column) (bytes : List ℕ) → is_plain column.shape ≡ true → is_path column bytes ≡ true → bytes ≡ []
unfolding is_path
plain_paths column bytes plain e = plain_path column.shape column.tag bytes plain e

less_equal : {G : Type 0} → Less ≡ Equal → G
less_equal e = absurd cc

plain_few : (column : Column) (cells : List PathCell) → is_plain column.shape ≡ true → AllByRecursion (λ c. is_path column c.path ≡ true) cells
    → IsStrictlySortedBy (path_order column) (map (λ c. c.path) cells) → length cells ≤ 1
unfolding IsStrictlySortedBy
plain_few column [] plain paths sorted = omega arith
plain_few column (c ∷ []) plain paths sorted = omega arith
plain_few column (c ∷ e ∷ cells) plain paths sorted =
    let same : c.path ≡ e.path = plain_paths column c.path plain paths.0 ∙ sym (plain_paths column e.path plain paths.1.0) in
    let tied : path_order column c.path e.path ≡ Equal =
    ap (λ (p : List ℕ). path_order column c.path p) (sym same) ∙ tied_itself (path_orders (path_type column.shape column.tag)).total c.path in
    let less : path_order column c.path e.path ≡ Less = sorted.0.0 in
    absurd (less_equal (sym less ∙ tied))

one_said : (d : Option Deletion) (cells : List PathCell) → (d ≡ None → IsThere cells) → (is_some d || ltb 0 (length cells)) ≡ true
one_said (Some x) cells said = refl
one_said None [] said = absurd (said refl)
one_said None (c ∷ cells) said = lt-ltb 0 (length (c ∷ cells)) (omega arith)

not_more : (plain : Bool) (n : ℕ) → (plain ≡ true → n ≤ 1) → (not plain || leb n 1) ≡ true
not_more true n few = le-leb n 1 (few refl)
not_more false n few = refl

fits_read : (is_of : Kind → Bool) (wanted : Wanted) → ((column : Column) → is_wanted wanted column ≡ is_of column.kind) → (columns : List Column)
    → IsNarrow columns → (before : Option ℕ) (c : RowColumn) → FitsNext is_of columns before c → IsRead wanted columns before c
fits_read is_of wanted is columns narrow before c fit =
    let f = fit.0 in
    let o = f.of in
    let total = (path_orders (path_type o.column.shape o.column.tag)).total in
    let count : is_count o.column c.deletion (length c.cells) ≡ true =
    and_from (is_some c.deletion || ltb 0 (length c.cells)) (not (is_plain o.column.shape) || leb (length c.cells) 1) (one_said c.deletion c.cells o.said)
    (not_more (is_plain o.column.shape) (length c.cells) (λ plain. plain_few o.column c.cells plain o.paths o.ascend)) in (
      (c.column, o.column),
      c.deletion,
      c.cells,
      ((o.named, few_columns columns c.column o.column narrow o.named, is o.column ∙ o.kind), fit.1),
      (f.deletion, o.collection),
      ((f.few, count), sorted_chain (λ x. x.path) (path_order o.column) (FitsPathCell o.column) total c.cells f.cells o.ascend),
      refl,
    )

row_column_exact : (is_of : Kind → Bool) (wanted : Wanted) → ((column : Column) → is_wanted wanted column ≡ is_of column.kind) → (columns : List Column)
    → IsNarrow columns → (before : Option ℕ) → IsExact (FitsNext is_of columns before) column_bytes (row_column_at wanted columns before)
row_column_exact is_of wanted is columns narrow before =
    exact_as (IsRead wanted columns before) (FitsNext is_of columns before) column_bytes column_bytes _ (row_column_at wanted columns before)
    (read_exact wanted columns before) (read_fits is_of wanted is columns before) (fits_read is_of wanted is columns narrow before) (λ c. refl) (λ left. refl)

-- ---- columns

-- at least so many columns of that kind
abbrev pub AreAtLeast : (Kind → Bool) → ℕ → List Column → List RowColumn → Type 0
AreAtLeast is_of least columns cs = FitColumns is_of columns cs × (leb least (length cs) ≡ true)

abbrev HaveNumber : (Kind → Bool) → ℕ → List Column → List RowColumn → Type 0
HaveNumber is_of least columns cs =
    ((length cs < 2 ^ 16) × (leb least (length cs) ≡ true)) × AreChained (λ c. c.column.number) nat_cmp (FitsColumn is_of columns) None cs

numbered_exact : (is_of : Kind → Bool) (wanted : Wanted) → ((column : Column) → is_wanted wanted column ≡ is_of column.kind) → (least : ℕ) (columns : List Column)
    → IsNarrow columns → IsExact (HaveNumber is_of least columns) columns_bytes (columns_at wanted least columns)
unfolding columns_at
numbered_exact is_of wanted is least columns narrow =
    exact_then (λ n. (n < 2 ^ 16) × (leb least n ≡ true)) u16 (checked (leb least) u16_at) (HaveNumber is_of least columns) columns_bytes (λ n cs. length cs ≡ n)
    (λ n cs. flat_map column_bytes cs)
    (λ before n left. chain_at (λ c. c.column.number) (row_column_at wanted columns) n None left)
    (exact_checked (λ n. n < 2 ^ 16) u16 u16_at (leb least) u16_field.exact)
    (λ before n fit-n. exact_as (IsChain (λ c. c.column.number) nat_cmp (FitsColumn is_of columns) n None)
    (λ cs. HaveNumber is_of least columns cs × (length cs ≡ n))
    (flat_map column_bytes) (flat_map column_bytes) _ (λ left. chain_at (λ c. c.column.number) (row_column_at wanted columns) n None left)
    (exact_chain (λ c. c.column.number) nat_cmp (FitsColumn is_of columns) column_bytes (row_column_at wanted columns)
    (row_column_exact is_of wanted is columns narrow) n None)
    (λ cs fit. ((subst (λ (m : ℕ). (m < 2 ^ 16) × (leb least m ≡ true)) (sym fit.0) fit-n, fit.1), fit.0))
    (λ cs fit. (fit.1, fit.0.1)) (λ cs. refl) (λ left. refl))
    (λ cs fit. (length cs, fit.0, refl))
    (λ n cs fit same. ap (λ (m : ℕ). u16 m ++ flat_map column_bytes cs) same)

pub at_least_exact : (is_of : Kind → Bool) (wanted : Wanted) → ((column : Column) → is_wanted wanted column ≡ is_of column.kind) → (least : ℕ)
    (columns : List Column) → IsNarrow columns → IsExact (AreAtLeast is_of least columns) columns_bytes (columns_at wanted least columns)
at_least_exact is_of wanted is least columns narrow =
    exact_as (HaveNumber is_of least columns) (AreAtLeast is_of least columns) columns_bytes columns_bytes _ (columns_at wanted least columns)
    (numbered_exact is_of wanted is least columns narrow)
    (λ cs fit. (
      record {
        ascend = chain_sorted (λ c. c.column.number) nat_cmp (FitsColumn is_of columns) nat_cmp_total None cs fit.1;
        each = chain_fits (λ c. c.column.number) nat_cmp (FitsColumn is_of columns) nat_cmp_total None cs fit.1;
        few = fit.0.0;
      },
      fit.0.1,
    ))
    (λ cs fit. ((fit.0.few, fit.1), sorted_chain (λ c. c.column.number) nat_cmp (FitsColumn is_of columns) nat_cmp_total cs fit.0.each fit.0.ascend))
    (λ cs. refl) (λ left. refl)

pub columns_exact : (is_of : Kind → Bool) (wanted : Wanted) → ((column : Column) → is_wanted wanted column ≡ is_of column.kind) → (columns : List Column)
    → IsNarrow columns → IsExact (FitColumns is_of columns) columns_bytes (columns_at wanted 0 columns)
columns_exact is_of wanted is columns narrow =
    exact_as (AreAtLeast is_of 0 columns) (FitColumns is_of columns) columns_bytes columns_bytes _ (columns_at wanted 0 columns)
    (at_least_exact is_of wanted is 0 columns narrow) (λ cs fit. fit.0) (λ cs fit. (fit, le-leb 0 (length cs) (omega arith))) (λ cs. refl) (λ left. refl)
