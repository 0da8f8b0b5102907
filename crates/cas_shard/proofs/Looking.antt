-- The rows that a SELECT shows of what a shard has stored are the live view of all that was written to the partition.
use Rattle.std.proofs.Common.{◌≡◌, ◌+◌, ℕ, zero, suc, ℤ, Option, None, Some, Bool, true, false, List, [], ◌∷◌, ◌++◌, take, reverse, not, refl, sym, ap, ◌∙◌, subst, append-nil, Result, Ok, Err, IfOk}
use Rattle.std.specs.Prelude.{map, slice_get, ◌==◌, ◌&&◌, ◌||◌, if◌then◌else◌}
use Rattle.cas_types.specs.declared.schema.Column.{Column}
use Rattle.cas_types.specs.declared.schema.TableSchema.{TableSchema}
use Rattle.cas_bounds.specs.ClusteringOrder.{clustering_order}
use Rattle.cas_atoms.specs.Answers.{answer, answered, has_cell, has_kind, is_empty, is_whole, limited, row_shown, turned, with_static}
use Rattle.cas_atoms.specs.Coordinates.{RowKey, same_bytes, static_row}
use Rattle.cas_atoms.specs.RowsAndPaths.{alive_paths, ordered}
use Rattle.cas_atoms.specs.declared.atom.Mutation.{Mutation}
use Rattle.cas_atoms.specs.declared.query.Query.{Query}
use Rattle.cas_atoms.specs.declared.query.LiveRow.{LiveRow}
use Rattle.cas_memtable.specs.Kept.{all_of, atoms_at, atoms_under, memtables_of}
use Rattle.cas_memtable.proofs.Keeping.{more_under}
use Rattle.cas_laws.proofs.AliveProofs.{same_answers}
use Rattle.cas_stored.specs.Rows.{AreRowsOf}
use Rattle.cas_stored.specs.Stored.{StoredTable}
use Rattle.cas_shard.specs.declared.entry.Entry.{Entry}
use Rattle.cas_shard.specs.declared.entry.Entry.TheVariants.{Wrote}
use Rattle.cas_shard.specs.Entries.{first}
use Rattle.cas_shard.specs.Laws.{atoms_of_partition}
use Rattle.cas_shard.specs.Shards.{ShardHistory, all_entries, look_at, moment_at, number_of, raised}
use Rattle.cas_shard.specs.Stands.{Asks, Holds, ShardState, Stands, mutations_of, of_table, order_at, order_of, written_to}
use Rattle.cas_shard.specs.Inner.Looks.{Answers}
use Rattle.cas_shard.specs.declared.answers.Look.{Look}
use Rattle.cas_shard.proofs.Memory.{holds_at, none_said}
use Rattle.cas_shard.proofs.Numbering.{all_stand}

-- ---- rows

pub if_ok_too : {A E : Type 0} (r : Result A E) (P Q : A → Type 0) → ((x : A) → P x → Q x) → IfOk r P → IfOk r Q
if_ok_too (Ok x) P Q h p = h x p
if_ok_too (Err e) P Q h p = tt

-- of no atoms nothing is shown
no_paths : (now : ℤ) (r : RowKey) (n : ℕ) (c : Column) → alive_paths [] now r n c ≡ []
unfolding ordered
no_paths now r n c = refl

no_cell : (now : ℤ) (r : RowKey) (n : ℕ) (columns : List Column) → has_cell [] now r n columns ≡ false
no_cell now r n [] = refl
no_cell now r n (c ∷ cs) =
    ap (λ (ps : List (List ℕ)). (has_kind r c.kind && not (is_empty ps)) || has_cell [] now r (n + 1) cs) (no_paths now r n c) ∙ by (has_kind r c.kind) ∙ no_cell now r (n + 1) cs
  where
    by : (b : Bool) → ((b && false) || has_cell [] now r (n + 1) cs) ≡ has_cell [] now r (n + 1) cs
    by true = refl
    by false = refl

turned_none : {X : Type 0} (b : Bool) (xs : List X) → xs ≡ [] → turned b xs ≡ []
turned_none true xs e = ap reverse e
turned_none false xs e = e

limited_none : {X : Type 0} (o : Option ℕ) (xs : List X) → xs ≡ [] → limited o xs ≡ []
limited_none None xs e = e
limited_none (Some zero) xs e = ap (take 0) e
limited_none (Some (suc n)) xs e = ap (take (suc n)) e

static_none : (q : Query) (now : ℤ) → with_static q [] now [] ≡ []
static_none q now = by (is_whole q.slice)
  where
    by : (w : Bool) → (if w && has_cell [] now static_row 0 q.columns then static_row ∷ [] else []) ≡ []
    by true = ap (λ b. if b then static_row ∷ [] else []) (no_cell now static_row 0 q.columns)
    by false = refl

none_answered : (q : Query) (now : ℤ) → answered q [] now ≡ []
unfolding answered ordered
none_answered q now = refl

nothing : (q : Query) (now : ℤ) → answer q [] now ≡ []
unfolding answer
nothing q now =
    ap (map (row_shown q [] now))
    (limited_none q.limit (with_static q [] now (turned q.reversed (answered q [] now))) (ap (with_static q [] now) (turned_none q.reversed (answered q [] now) (none_answered q now)) ∙ static_none q now))

-- of a table that has nothing stored
pub none_shown : (q : Query) (now : ℤ) (stored : Option StoredTable) (shown : List LiveRow) → stored ≡ None → shown ≡ [] → Answers q now stored shown
none_shown q now stored shown is none ws holds one =
    let says = none_said (clustering_order q.columns) ws (holds_at (clustering_order q.columns) ws stored None (sym is) holds) in
    none ∙ sym (nothing q now) ∙ same_answers [] (atoms_under q.key ws) (says.same q.key) q now

-- of one with something stored
pub store_shown : (q : Query) (now : ℤ) (stored : Option StoredTable) (t : StoredTable) (shown : List LiveRow) → stored ≡ Some t → AreRowsOf t.files (memtables_of t.parts) q now shown → Answers q now stored shown
store_shown q now stored t shown is are ws holds one =
    let h : Holds (clustering_order q.columns) (Some t) ws = holds_at (clustering_order q.columns) ws stored (Some t) (sym is) holds in
    are h.places h.holds one ∙ same_answers (atoms_under q.key (all_of h.places)) (atoms_under q.key ws) (h.says.same q.key) q now

-- what entries write to a partition is what the mutations of their table write under its key
under_entry : (table : ℕ) (key : List ℕ) (e : Entry) → atoms_under key (of_table table e) ≡ atoms_of_partition table key e
under_entry table key (Wrote session call m) = by (m.table == table)
  where
    by : (b : Bool) → atoms_under key (if b then m ∷ [] else []) ≡ (if b && same_bytes m.key key then m.atoms else [])
    by true = append-nil (atoms_at key m)
    by false = refl

under_table : (table : ℕ) (key : List ℕ) (entries : List Entry) → atoms_under key (mutations_of table entries) ≡ written_to table entries key
under_table table key [] = refl
under_table table key (e ∷ entries) =
    more_under key (of_table table e) (mutations_of table entries) ∙ (λ i. under_entry table key e i ++ under_table table key entries i)

shown : (tables : List TableSchema) (s : ShardHistory) (x : ShardState) (q : Query) (now : ℤ) (rows : List LiveRow) → Stands tables s x → Asks tables q
    → Answers q now (slice_get x.stores q.table) rows → rows ≡ answer q (first (number_of s) q.table q.key (all_entries s)) now
shown tables s x q now rows h asks a =
    let t : TableSchema = asks.0 in
    let ws : List Mutation = mutations_of q.table (all_entries s) in
    let order : order_at tables q.table ≡ clustering_order q.columns = ap order_of asks.1 ∙ ap clustering_order (sym asks.2.columns) in
    let to_query : clustering_order t.columns ≡ clustering_order q.columns = ap clustering_order (sym asks.2.columns) in
    a ws (subst (λ o. Holds o (slice_get x.stores q.table) ws) order (h.kept q.table)) (asks.2.low.0 ∙ to_query, asks.2.high.0 ∙ to_query)
    ∙ ap (λ l. answer q l now) (under_table q.table q.key (all_entries s) ∙ sym (all_stand s q.table q.key h.numbers))

pub shows : (tables : List TableSchema) (s : ShardHistory) (x : ShardState) (reading : ℤ) (q : Query) (l : Look) (ps : List StoredTable) (rows : List LiveRow) → Stands tables (raised reading s) x → Asks tables q
    → Answers q l.now (slice_get ps q.table) rows → ps ≡ x.stores → l.rows ≡ rows → l.front ≡ x.number → l.now ≡ x.moment → l ≡ look_at reading s q
unfolding look_at
shows tables s x reading q l ps rows h asks a same are f n =
    let moment : l.now ≡ moment_at reading s = n ∙ h.moment in
    let read : rows ≡ answer q (first (number_of s) q.table q.key (all_entries s)) l.now
    = shown tables (raised reading s) x q l.now rows h asks (subst (λ p. Answers q l.now (slice_get p q.table) rows) same a) in
    λ i. record {
      rows = (are ∙ read ∙ ap (answer q (first (number_of s) q.table q.key (all_entries s))) moment) i;
      front = (f ∙ h.number) i;
      now = moment i;
    }
