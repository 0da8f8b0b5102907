-- What stands in a table's files once memory has nothing of it that says more.
use Rattle.std.proofs.Common.{◌≡◌, ◌≤◌, ℕ, zero, suc, Bool, true, false, if◌then◌else◌, List, [], ◌∷◌, ◌++◌, length, map, drop, Option, None, Some, is_some, refl, sym, ap, ◌∙◌, subst, arith, append-nil, append_assoc}
use denote.Ref.{Bor}
use Rattle.std.specs.Prelude.{slice_get}
use Rattle.std.specs.Arc.{arc_value}
use Rattle.std.specs.Option.{option_copied}
use Rattle.std.proofs.lemmas.Bool.{true≢false}
use Rattle.std.proofs.lemmas.Option.{same_Some}
use Rattle.cas_types.specs.declared.schema.Column.{Column}
use Rattle.cas_bounds.specs.ClusteringOrder.{clustering_order}
use Rattle.cas_bounds.specs.declared.order.Ordered.{Ordered}
use Rattle.cas_atoms.specs.Coordinates.{same_bytes}
use Rattle.cas_atoms.specs.LogLength.{record_length}
use Rattle.cas_atoms.specs.Winners.{Same}
use Rattle.cas_atoms.specs.declared.atom.Atom.{Atom}
use Rattle.cas_atoms.specs.declared.atom.Mutation.{Mutation}
use Rattle.cas_flush.specs.Flushed.{AreOf, SayWhatIsHeld, any}
use Rattle.cas_flush.proofs.Holding.{has_there}
use Rattle.cas_flush.proofs.Reaching.{all_reached, none_reached}
use Rattle.cas_memtable.specs.Kept.{HoldJust, IsNextKey, StandIn, StandInEach, all_of, atoms_under, bytes_of, has_key, memtables_of}
use Rattle.cas_memtable.specs.Memtables.{added, bytes_with}
use Rattle.cas_memtable.specs.declared.memtable.MemPart.{MemPart}
use Rattle.cas_memtable.proofs.Keeping.{more_under}
use Rattle.cas_shard.specs.Flushing.{bytes_at, frozen_at, memtables_at}
use Rattle.cas_shard.specs.Stands.{Holds, SaySame, ShardState, files_at}
use Rattle.cas_shard.proofs.Memory.{say_alike, say_behind, say_then}
use Rattle.cas_sstread.specs.Loading.{Held}
use Rattle.cas_stored.specs.Stored.{HoldEach, StoredTable}
use Rattle.cas_streams.specs.NoMore.{SaysNoMore}
use Rattle.cas_streams.specs.Streams.{IsThere}
use Rattle.cas_tables.specs.Contents.{Partition}
use Rattle.cas_view.specs.Views.{File}
use Rattle.cas_lasting.specs.Flushed.{AreInFiles, SaySomething}

-- ---- mutations that write nothing

added_none : (b : ℕ) (atoms : List Atom) (long : ℕ) → 1 ≤ long → added b atoms long ≡ 0 → (b ≡ 0) × (atoms ≡ [])
added_none b [] long some none = (none, refl)
added_none b (a ∷ atoms) long some none = absurd (omega (arith, some, none))

if_none : (b : Bool) (none : List Atom) → (if b then none else none) ≡ none
if_none true none = refl
if_none false none = refl

nothing_written : (b : ℕ) (ws : List Mutation) → bytes_of b ws ≡ 0 → (b ≡ 0) × ((key : List ℕ) → atoms_under key ws ≡ [])
nothing_written b [] none = (none, λ key. refl)
nothing_written b (w ∷ ws) none =
    let rest : (bytes_with b w ≡ 0) × ((key : List ℕ) → atoms_under key ws ≡ []) = nothing_written (bytes_with b w) ws none in
    let own : (b ≡ 0) × (w.atoms ≡ []) = added_none b w.atoms (record_length w) (omega arith) rest.0 in
    (own.0, λ key. (λ i. (if same_bytes w.key key then own.1 i else []) ++ rest.1 key i) ∙ ap (λ (l : List Atom). l ++ []) (if_none (same_bytes w.key key) []))

nothing_says : (ws : List Mutation) → ((key : List ℕ) → atoms_under key ws ≡ []) → SaySame [] ws
nothing_says ws none =
    let itself : SaySame [] [] = say_alike [] [] refl in
    record {
      same = λ key. subst (λ (atoms : List Atom). Same [] atoms) (sym (none key)) (itself.same key);
      no_more = λ key. subst (λ (atoms : List Atom). SaysNoMore [] atoms) (sym (none key)) (itself.no_more key);
      ends = λ key c at. absurd at.has;
    }

-- ---- a memtable without bytes, behind others that say nothing

pub all_append : (vss uss : List (List Mutation)) → all_of (vss ++ uss) ≡ all_of vss ++ all_of uss
all_append [] uss = refl
all_append (vs ∷ vss) uss = ap (λ (l : List Mutation). vs ++ l) (all_append vss uss) ∙ sym (append_assoc vs (all_of vss) (all_of uss))

-- what stands in the last memtable, and in those before it
pub record LastOf (order : List Ordered) (fs : List MemPart) (a : MemPart) (wss : List (List Mutation)) : Type 0 where
  pub before : List (List Mutation)
  pub last : List Mutation
  pub all : wss ≡ before ++ last ∷ []
  pub stand : StandInEach order fs before
  pub stands : StandIn order a last

pub last_of : (order : List Ordered) (fs : List MemPart) (a : MemPart) (wss : List (List Mutation)) → StandInEach order (fs ++ a ∷ []) wss → LastOf order fs a wss
last_of order [] a [] stand = absurd stand
last_of order [] a (ws ∷ []) stand = record { before = []; last = ws; all = refl; stand = tt; stands = stand.0 }
last_of order [] a (ws ∷ vs ∷ wss) stand = absurd stand.1
last_of order (f ∷ fs) a [] stand = absurd stand
last_of order (f ∷ fs) a (ws ∷ wss) stand =
    let rest = last_of order fs a wss stand.1 in
    record { before = ws ∷ rest.before; last = rest.last; all = ap (λ (l : List (List Mutation)). ws ∷ l) rest.all; stand = (stand.0, rest.stand); stands = rest.stands }

-- whichever mutations stand in them, they have no atom
abbrev pub SayNothing : List Ordered → List MemPart → Type 0
SayNothing order ms = (wss : List (List Mutation)) → StandInEach order ms wss → (key : List ℕ) → atoms_under key (all_of wss) ≡ []

with_last : (order : List Ordered) (fs : List MemPart) (a : MemPart) → a.bytes ≡ 0 → SayNothing order fs → SayNothing order (fs ++ a ∷ [])
with_last order fs a none says wss stand key =
    let l = last_of order fs a wss stand in
    let last : atoms_under key l.last ≡ [] = (nothing_written 0 l.last (sym l.stands.bytes ∙ none)).1 key in
    let is : all_of wss ≡ all_of l.before ++ l.last =
    ap all_of l.all ∙ all_append l.before (l.last ∷ []) ∙ ap (λ (us : List Mutation). all_of l.before ++ us) (append-nil l.last) in
    ap (atoms_under key) is ∙ more_under key (all_of l.before) l.last ∙ (λ i. says l.before l.stand key i ++ last i)

none_stand : (order : List Ordered) → SayNothing order []
none_stand order [] stand key = refl
none_stand order (ws ∷ wss) stand key = absurd stand

-- where nothing was written since memtables were frozen that have no atom, memory has none
pub memory_says_nothing : (order : List Ordered) (o : Option StoredTable) → bytes_at o ≡ 0 → SayNothing order (frozen_at o) → SayNothing order (memtables_at o)
memory_says_nothing order None none says = none_stand order
memory_says_nothing order (Some p) none says = with_last order (map arc_value p.parts.frozen.items) p.parts.active none says

pub no_frozen : (order : List Ordered) (ms : List MemPart) → length ms ≡ 0 → SayNothing order ms
no_frozen order [] none = none_stand order
no_frozen order (m ∷ ms) none = absurd (omega (arith, none))

-- a file without partitions would say what they do
pub holds_nothing : (columns : List Column) (ms : List MemPart) → SayWhatIsHeld columns ms any [] → SayNothing (clustering_order columns) ms
holds_nothing columns ms says wss stand =
    λ key. none_there (atoms_under key (all_of wss)) ((says wss stand).all key refl)
  where
    none_there : (atoms : List Atom) → (IsThere atoms → ⊥) → atoms ≡ []
    none_there [] none = refl
    none_there (a ∷ atoms) none = absurd (none tt)

-- a memtable with a key has an atom, so that a file of it has a partition
pub never_none : (columns : List Column) (o : Option StoredTable) (key : List ℕ) (ws : List Mutation) → HoldJust columns (memtables_at o) ws → SayWhatIsHeld columns (frozen_at o) any []
    → has_key (frozen_at o) key ≡ true → ⊥
never_none columns None key ws has says there = true≢false (sym there)
never_none columns (Some p) key ws has says there =
    let fs : List MemPart = map arc_value p.parts.frozen.items in
    let l = last_of (clustering_order columns) fs p.parts.active has.places has.held.stand in
    (says l.before l.stand).all key refl (has_there (clustering_order columns) key fs l.before l.stand there)

-- memtables without a first key have none
no_first : (ms : List MemPart) (o : Option (Bor (List ℕ))) → is_some o ≡ false → IsNextKey ms None (option_copied o) → IsNextKey ms None None
no_first ms None none is = is
no_first ms (Some k) none is = absurd (true≢false none)

pub some_first : (ms : List MemPart) (o : Option (Bor (List ℕ))) → is_some o ≡ true → IsNextKey ms None (option_copied o) → (key : List ℕ) × (has_key ms key ≡ true)
some_first ms None some is = absurd (true≢false (sym some))
some_first ms (Some k) some is = (k.now, is.1)

-- so a file without partitions says what they hold
pub nothing_frozen : (columns : List Column) (xs : List ShardState) (place table : ℕ) (x y : ShardState) (ms : List MemPart) (o : Option (Bor (List ℕ))) → slice_get xs place ≡ Some x
    → slice_get xs place ≡ Some y → ms ≡ frozen_at (slice_get x.stores table) → is_some o ≡ false → IsNextKey ms None (option_copied o)
    → SayWhatIsHeld columns (frozen_at (slice_get y.stores table)) any []
nothing_frozen columns xs place table x y ms o at_x at_y are none is =
    subst (λ (l : List MemPart). SayWhatIsHeld columns l any [])
    (are ∙ ap (λ (z : ShardState). frozen_at (slice_get z.stores table)) (same_Some x y (sym at_x ∙ at_y)))
    (λ vss stand. all_reached (clustering_order columns) ms vss stand None (no_first ms o none is) [] (none_reached (all_of vss)))

all_but_last : {X : Type 0} (xs : List X) (x : X) → drop (length xs) (xs ++ x ∷ []) ≡ x ∷ []
all_but_last [] x = refl
all_but_last (y ∷ xs) x = all_but_last xs x

none_dropped : (n : ℕ) → drop n (memtables_at None) ≡ memtables_at None
none_dropped zero = refl
none_dropped (suc n) = refl

-- nor does what is left of it once all frozen ones were let go of
pub rest_says_nothing : (order : List Ordered) (o : Option StoredTable) (count : ℕ) → bytes_at o ≡ 0 → count ≡ length (frozen_at o) → SayNothing order (drop count (memtables_at o))
rest_says_nothing order None count none all = subst (SayNothing order) (sym (none_dropped count)) (none_stand order)
rest_says_nothing order (Some p) count none all =
    let fs : List MemPart = map arc_value p.parts.frozen.items in
    subst (SayNothing order) (sym (ap (λ (k : ℕ). drop k (fs ++ p.parts.active ∷ [])) all ∙ all_but_last fs p.parts.active))
    (with_last order [] p.parts.active none (none_stand order))

-- ---- mutations that say something

there_more : {X : Type 0} (xs ys : List X) → IsThere xs → IsThere (xs ++ ys)
there_more [] ys is = absurd is
there_more (x ∷ xs) ys is = tt

-- a file's partitions are of keys under which something was written
first_written : (ws : List Mutation) (ps : List Partition) → 1 ≤ length ps → AreOf any ws ps → SaySomething ws
first_written ws [] some are = absurd (omega (arith, some))
first_written ws (p ∷ ps) some are = (p.key, are.written.0)

-- where there is one, memory says something
pub held_something : (columns : List Column) (o : Option StoredTable) (ps : List Partition) → 1 ≤ length ps → SayWhatIsHeld columns (frozen_at o) any ps → (ws : List Mutation)
    → HoldJust columns (memtables_at o) ws → SaySomething ws
held_something columns None ps some says ws has = absurd (first_written [] ps some (says [] tt)).1
held_something columns (Some t) ps some says ws has =
    let l = last_of (clustering_order columns) (map arc_value t.parts.frozen.items) t.parts.active has.places has.held.stand in
    let (key, is) = first_written (all_of l.before) ps some (says l.before l.stand) in
    let all : all_of l.before ++ all_of (l.last ∷ []) ≡ ws = sym (ap all_of l.all ∙ all_append l.before (l.last ∷ [])) ∙ has.all in (
      key,
      subst (λ us. IsThere (atoms_under key us)) all
          (subst IsThere (sym (more_under key (all_of l.before) (all_of (l.last ∷ []))))
          (there_more (atoms_under key (all_of l.before)) (atoms_under key (all_of (l.last ∷ []))) is)),
    )

-- ---- all stands in the files

-- what stands in the files, and in the memtables behind them
pub record Parted (order : List Ordered) (fs : List (File Held)) (ms : List MemPart) (wss : List (List Mutation)) : Type 0 where
  pub front : List (List Mutation)
  pub rest : List (List Mutation)
  pub all : wss ≡ front ++ rest
  pub files : HoldEach order fs [] front
  pub memory : StandInEach order ms rest

pub parted : (order : List Ordered) (fs : List (File Held)) (ms : List MemPart) (wss : List (List Mutation)) → HoldEach order fs ms wss → Parted order fs ms wss
parted order [] ms wss holds = record { front = []; rest = wss; all = refl; files = tt; memory = holds }
parted order (f ∷ fs) ms [] holds = absurd holds
parted order (f ∷ fs) ms (ws ∷ wss) holds =
    let p = parted order fs ms wss holds.1 in
    record { front = ws ∷ p.front; rest = p.rest; all = ap (λ (l : List (List Mutation)). ws ∷ l) p.all; files = (holds.0, p.files); memory = p.memory }

pub in_files : (order : List Ordered) (o : Option StoredTable) (ws : List Mutation) → Holds order o ws → SayNothing order (memtables_at o) → AreInFiles order (files_at o) ws
in_files order None ws holds says =
    record { places = []; stand = tt; says = subst (λ (wss : List (List Mutation)). SaySame (all_of wss) ws) holds.holds holds.says }
in_files order (Some t) ws holds says =
    let p = parted order t.files (memtables_of t.parts) holds.places holds.holds in
    let more : SaySame (all_of p.front) (all_of p.front ++ all_of p.rest) =
    subst (λ (us : List Mutation). SaySame us (all_of p.front ++ all_of p.rest)) (append-nil (all_of p.front)) (say_behind (all_of p.front) [] (all_of p.rest) (nothing_says (all_of p.rest) (says p.rest p.memory))) in
    record {
      places = p.front;
      stand = p.files;
      says =
          say_then (all_of p.front) (all_of p.front ++ all_of p.rest) ws more
          (subst (λ (us : List Mutation). SaySame us ws) (ap all_of p.all ∙ all_append p.front p.rest) holds.says);
    }
