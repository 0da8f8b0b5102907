-- A table file that says what frozen memtables do takes their place.
use Rattle.std.proofs.Common.{◌≡◌, ◌≢◌, ◌⊎◌, inl, inr, ◌<◌, ◌≤◌, ◌+◌, ◌-◌, ◌^◌, min, ℕ, zero, suc, Bool, true, false, if◌then◌else◌, Option, None, Some, List, [], ◌∷◌, ◌++◌, length, take, drop, map, refl, sym, ap, ◌∙◌, subst, arith}
use Rattle.std.proofs.lemmas.List.{take-append-le}
use Rattle.std.specs.Arc.{arc_value}
use Rattle.std.specs.List.{AllByRecursion}
use Rattle.std.specs.Prelude.{slice_get, slice_set}
use Rattle.cas_types.specs.declared.schema.Column.{Column}
use Rattle.cas_types.specs.declared.schema.TableSchema.{TableSchema}
use Rattle.cas_bounds.specs.ClusteringOrder.{clustering_order}
use Rattle.cas_bounds.specs.declared.order.Ordered.{Ordered}
use Rattle.cas_atoms.specs.Coordinates.{same_bytes}
use Rattle.cas_atoms.specs.LogLength.{record_length}
use Rattle.cas_atoms.specs.Winners.{Same}
use Rattle.cas_atoms.specs.declared.atom.Atom.{Atom}
use Rattle.cas_atoms.specs.declared.atom.Mutation.{Mutation}
use Rattle.cas_streams.specs.NoMore.{SaysNoMore}
use Rattle.cas_partition.specs.Ends.{AreAtEnds}
use Rattle.cas_memtable.specs.Memtables.{IsOfColumns, added, atoms_of, bytes_with, changes_of, least_of, least_with}
use Rattle.cas_memtable.specs.declared.memtable.MemPart.{MemPart}
use Rattle.cas_memtable.specs.Kept.{HoldJust, StandIn, StandInEach, all_of, atoms_under, bytes_of, memtables_of}
use Rattle.cas_memtable.proofs.Keeping.{mapped_count, rest_before}
use Rattle.cas_sstread.specs.Loading.{Held}
use Rattle.cas_stored.specs.Stored.{HoldEach, HoldsEach, StandInFile, StoredTable, flushed, oldest}
use Rattle.cas_stored.proofs.Flushing.{all_flushed}
use Rattle.cas_view.specs.Views.{File}
use Rattle.cas_shard.specs.Flushing.{HasInMemory, SaysWhatTheyDo, bytes_at, frozen_at, memtables_at}
use Rattle.cas_shard.specs.Shards.{ShardHistory, all_entries}
use Rattle.cas_shard.specs.Stands.{Holds, SaySame, ShardState, Stands, files_at, mutations_of, order_at}
use Rattle.cas_shard.specs.Inner.Stores.{Swaps}
use Rattle.cas_shard.proofs.InMemory.{InStores, bytes_kept, nothing_in_memory}
use Rattle.cas_shard.proofs.Memory.{at_apart, at_set, count_set, holds_at, same_number, say_before, say_behind, say_then}

-- ---- mutations that say the same, among others

say_among : (front rest : List (List Mutation)) (vs ws : List Mutation) → SaySame vs ws → SaySame (all_of (front ++ vs ∷ rest)) (all_of (front ++ ws ∷ rest))
say_among [] rest vs ws says = say_before (all_of rest) vs ws says
say_among (us ∷ front) rest vs ws says = say_behind us (all_of (front ++ vs ∷ rest)) (all_of (front ++ ws ∷ rest)) (say_among front rest vs ws says)

-- ---- what stands in the oldest memtables

in_memtables : (order : List Ordered) (fs : List (File Held)) (ms : List MemPart) (wss : List (List Mutation)) → HoldEach order fs ms wss → StandInEach order ms (drop (length fs) wss)
in_memtables order [] ms wss holds = holds
in_memtables order (f ∷ fs) ms [] holds = absurd holds
in_memtables order (f ∷ fs) ms (ws ∷ wss) holds = in_memtables order fs ms wss holds.1

in_oldest : (order : List Ordered) (count : ℕ) (ms : List MemPart) (wss : List (List Mutation)) → StandInEach order ms wss → StandInEach order (take count ms) (take count wss)
in_oldest order zero ms wss stand = tt
in_oldest order (suc count) [] [] stand = tt
in_oldest order (suc count) [] (ws ∷ wss) stand = absurd stand
in_oldest order (suc count) (m ∷ ms) [] stand = absurd stand
in_oldest order (suc count) (m ∷ ms) (ws ∷ wss) stand = (stand.0, in_oldest order count ms wss stand.1)

-- ---- a table

module _ (p q : StoredTable) (count : ℕ) (files : List (File Held)) (few : count ≤ length p.parts.frozen.items) where
  few_frozen : count ≤ length (map arc_value p.parts.frozen.items)
  few_frozen = subst (λ k. count ≤ k) (sym (mapped_count arc_value p.parts.frozen.items)) few

  -- the file says what they did
  own_holds : (order : List Ordered) (f : File Held) (ws : List Mutation)
      → ((wss : List (List Mutation)) (vs : List Mutation) → HoldsEach order p wss → StandInFile order f vs → HoldsEach order q (flushed (length p.files) count vs wss))
      → SaysWhatTheyDo order (take count (frozen_at (Some p))) f → Holds order (Some p) ws → Holds order (Some q) ws
  own_holds order f ws keeps says h =
      let n : ℕ = length p.files in
      let front : List (List Mutation) = take n h.places in
      let rest : List (List Mutation) = drop count (drop n h.places) in
      let all : StandInEach order (take count (memtables_of p.parts)) (take count (drop n h.places))
      = in_oldest order count (memtables_of p.parts) (drop n h.places) (in_memtables order p.files (memtables_of p.parts) h.places h.holds) in
      let some : StandInEach order (take count (frozen_at (Some p))) (take count (drop n h.places))
      = subst (λ l. StandInEach order l (take count (drop n h.places))) (take-append-le count (map arc_value p.parts.frozen.items) (p.parts.active ∷ []) few_frozen) all in
      record {
        places = flushed n count says.written h.places;
        holds = keeps h.places says.written h.holds says.stand;
        says = say_then (all_of (flushed n count says.written h.places)) (all_of h.places) ws
            (subst (SaySame (all_of (flushed n count says.written h.places))) (all_flushed n count h.places)
            (say_among front rest says.written (oldest n count h.places) (says.says (take count (drop n h.places)) some))) h.says;
      }

pub swapped : (ps qs : List StoredTable) (n count : ℕ) (p q : StoredTable) (files : List (File Held)) → n < length ps → slice_get ps n ≡ Some p → qs ≡ slice_set ps n q
    → count ≤ length p.parts.frozen.items
    → ((order : List Ordered) (wss : List (List Mutation)) (vs : List Mutation) (f : File Held) → files ≡ p.files ++ f ∷ [] → HoldsEach order p wss → StandInFile order f vs
    → HoldsEach order q (flushed (length p.files) count vs wss))
    → memtables_of q.parts ≡ drop count (memtables_of p.parts) → q.files ≡ files → q.parts.active.bytes ≡ p.parts.active.bytes → Swaps n count files ps qs
swapped ps qs n count p q files there is set few keeps left own bytes = record {
  holds = λ order f ws grown says h.
      holds_at order ws (Some q) (slice_get qs n) here
      (own_holds p q count files few order f ws (λ wss vs. keeps order wss vs f (grown ∙ ap (λ o. files_at o ++ f ∷ []) is))
      (subst (λ o. SaysWhatTheyDo order (take count (frozen_at o)) f) is says) (holds_at order ws (slice_get ps n) (Some p) (sym is) h));
  files_are = ap files_at here ∙ own;
  memory = ap memtables_at here ∙ left ∙ ap (λ o. drop count (memtables_at o)) (sym is);
  others = λ t apart. ap (λ l. slice_get l t) set ∙ at_apart ps n q t apart;
  stay = ap length set ∙ count_set ps n q;
  bytes = bytes_kept ps qs n p q there is set bytes;
}
  where
    here : slice_get qs n ≡ Some q
    here = ap (λ l. slice_get l n) set ∙ at_set ps n q there

pub some_frozen : (ps : List StoredTable) (n count : ℕ) → 1 ≤ count → count ≤ length (frozen_at (slice_get ps n)) → n < length ps
some_frozen [] n count some few = absurd (omega (arith, some, few))
some_frozen (p ∷ ps) zero count some few = omega arith
some_frozen (p ∷ ps) (suc n) count some few = omega (arith, some_frozen ps n count some few)

pub frozen_in : (ps : List StoredTable) (n count : ℕ) (p : StoredTable) → slice_get ps n ≡ Some p → count ≤ length (frozen_at (slice_get ps n)) → count ≤ length p.parts.frozen.items
frozen_in ps n count p is few =
    subst (λ k. count ≤ k) (mapped_count arc_value p.parts.frozen.items) (subst (λ o. count ≤ length (frozen_at o)) is few)

-- ---- a shard

pub as_swapped : (tables : List TableSchema) (s : ShardHistory) (x y : ShardState) (table count : ℕ) (files : List (File Held)) (f : File Held)
    → files ≡ files_at (slice_get x.stores table) ++ f ∷ [] → SaysWhatTheyDo (order_at tables table) (take count (frozen_at (slice_get x.stores table))) f
    → Stands tables s x → Swaps table count files x.stores y.stores → y.number ≡ x.number → y.drawn ≡ x.drawn → y.moment ≡ x.moment → Stands tables s y
as_swapped tables s x y table count files f grown says h swaps n d m = record {
  numbers = h.numbers;
  number = n ∙ h.number;
  drawn = d ∙ h.drawn;
  moment = m ∙ h.moment;
  kept = λ t. by t (same_number t table);
  few = subst (λ c. c ≤ length tables) (sym swaps.stay) h.few;
}
  where
    by : (t : ℕ) → (t ≡ table) ⊎ (t ≢ table) → Holds (order_at tables t) (slice_get y.stores t) (mutations_of t (all_entries s))
    by t (inl e) =
        subst (λ k. Holds (order_at tables k) (slice_get y.stores k) (mutations_of k (all_entries s))) (sym e)
        (swaps.holds (order_at tables table) f (mutations_of table (all_entries s)) grown says (h.kept table))
    by t (inr apart) = holds_at (order_at tables t) (mutations_of t (all_entries s)) (slice_get x.stores t) (slice_get y.stores t) (swaps.others t apart) (h.kept t)

-- ---- a memtable without bytes

added_none : (b : ℕ) (atoms : List Atom) (long : ℕ) → 1 ≤ long → added b atoms long ≡ 0 → (b ≡ 0) × (atoms ≡ [])
added_none b [] long some none = (none, refl)
added_none b (a ∷ atoms) long some none = absurd (omega (arith, some, none))

if_none : (b : Bool) (none : List Atom) → (if b then none else none) ≡ none
if_none true none = refl
if_none false none = refl

-- its mutations write nothing
nothing_written : (b : ℕ) (ws : List Mutation) → bytes_of b ws ≡ 0 → (b ≡ 0) × ((key : List ℕ) → atoms_under key ws ≡ [])
nothing_written b [] none = (none, λ key. refl)
nothing_written b (w ∷ ws) none =
    let rest : (bytes_with b w ≡ 0) × ((key : List ℕ) → atoms_under key ws ≡ []) = nothing_written (bytes_with b w) ws none in
    let own : (b ≡ 0) × (w.atoms ≡ []) = added_none b w.atoms (record_length w) (omega arith) rest.0 in
    (own.0, λ key. (λ i. (if same_bytes w.key key then own.1 i else []) ++ rest.1 key i) ∙ ap (λ (l : List Atom). l ++ []) (if_none (same_bytes w.key key) []))

stands_for_none : (order : List Ordered) (m : MemPart) (ws : List Mutation) → m.bytes ≡ 0 → StandIn order m ws → StandIn order m []
stands_for_none order m ws none stand =
    let nothing : (key : List ℕ) → atoms_under key ws ≡ [] = (nothing_written 0 ws (sym stand.bytes ∙ none)).1 in
    record {
      of = stand.of;
      same = λ key. subst (Same (atoms_of m key)) (nothing key) (stand.same key);
      no_more = λ key. subst (SaysNoMore (atoms_of m key)) (nothing key) (stand.no_more key);
      some = λ key there. absurd there;
      ends = λ key. subst (λ l. AreAtEnds l (changes_of m key)) (nothing key) (stand.ends key);
      least = λ key. stand.least key ∙ ap (least_with None) (nothing key);
      bytes = none;
    }

-- where all others were let go of
module _ (columns : List Column) (m : MemPart) (none : m.bytes ≡ 0) where
  last_stands : (ms : List MemPart) (wss : List (List Mutation)) → StandInEach (clustering_order columns) (ms ++ m ∷ []) wss → StandIn (clustering_order columns) m []
  last_stands [] [] stand = absurd stand
  last_stands [] (ws ∷ wss) stand = stands_for_none (clustering_order columns) m ws none stand.0
  last_stands (n ∷ ms) [] stand = absurd stand
  last_stands (n ∷ ms) (ws ∷ wss) stand = last_stands ms wss stand.1

  last_of : (ms : List MemPart) → AllByRecursion (IsOfColumns columns) (ms ++ m ∷ []) → IsOfColumns columns m
  last_of [] of = of.0
  last_of (n ∷ ms) of = last_of ms of.1

  last_alone : (ms : List MemPart) (ws : List Mutation) → HoldJust columns (ms ++ m ∷ []) ws → HoldJust columns (m ∷ []) []
  last_alone ms ws just = record {
    places = [] ∷ [];
    held = record { stand = (last_stands ms just.places just.held.stand, tt); of = (last_of ms just.held.of, tt); may = tt };
    all = refl;
  }

all_dropped : {X : Type 0} (xs : List X) → drop (length xs) xs ≡ []
all_dropped [] = refl
all_dropped (x ∷ xs) = all_dropped xs

emptied : (o : Option StoredTable) (count : ℕ) (columns : List Column) (ws : List Mutation) → count ≡ length (frozen_at o) → bytes_at o ≡ 0
    → HoldJust columns (memtables_at o) ws → HoldJust columns (drop count (memtables_at o)) []
emptied None zero columns ws all none just = nothing_in_memory columns
emptied None (suc count) columns ws all none just = nothing_in_memory columns
emptied (Some p) count columns ws all none just =
    let front : List MemPart = map arc_value p.parts.frozen.items in
    let few : length front ≤ length front = omega arith in
    subst (λ l. HoldJust columns l [])
    (sym (ap (λ k. drop k (front ++ p.parts.active ∷ [])) all ∙ rest_before (length front) front p.parts.active few ∙ ap (λ l. l ++ p.parts.active ∷ []) (all_dropped front)))
    (last_alone columns p.parts.active none front ws just)

pub as_emptied : (tables : List TableSchema) (x : ShardState) (stores : List StoredTable) (table count : ℕ) (files : List (File Held)) (ws : List Mutation)
    → Swaps table count files x.stores stores → count ≡ length (frozen_at (slice_get x.stores table)) → bytes_at (slice_get x.stores table) ≡ 0
    → HasInMemory tables table ws x → InStores tables table [] stores
as_emptied tables x stores table count files ws swaps all none h t at =
    subst (λ l. HoldJust t.columns l []) (sym swaps.memory) (emptied (slice_get x.stores table) count t.columns ws all none (h t at))
