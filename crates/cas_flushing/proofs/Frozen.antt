-- What frozen memtables hold, of what a shard has in memory of a table.
use Rattle.std.proofs.Common.{◌≡◌, ◌≤◌, ℕ, zero, suc, Bool, true, false, if◌then◌else◌, Option, None, Some, List, [], ◌∷◌, ◌++◌, length, take, drop, map, refl, sym, ap, ◌∙◌, subst, arith, append-nil, append_assoc}
use Rattle.std.specs.Arc.{arc_value}
use Rattle.std.specs.List.{AllByRecursion}
use Rattle.cas_types.specs.declared.schema.Column.{Column}
use Rattle.cas_bounds.specs.ClusteringOrder.{clustering_order}
use Rattle.cas_bounds.specs.declared.order.Ordered.{Ordered}
use Rattle.cas_atoms.specs.Coordinates.{same_bytes}
use Rattle.cas_atoms.specs.LogLength.{record_length}
use Rattle.cas_atoms.specs.Winners.{Same}
use Rattle.cas_atoms.specs.declared.atom.Atom.{Atom}
use Rattle.cas_atoms.specs.declared.atom.Mutation.{Mutation}
use Rattle.cas_memtable.specs.Kept.{HoldJust, HoldMutations, MayHold, StandInEach, all_of, atoms_under, bytes_of}
use Rattle.cas_memtable.specs.Memtables.{IsOfColumns, added, bytes_with}
use Rattle.cas_memtable.specs.declared.memtable.MemPart.{MemPart}
use Rattle.cas_memtable.proofs.Keeping.{more_under}
use Rattle.cas_partition.specs.Ends.{IsEnd}
use Rattle.cas_streams.specs.NoMore.{SaysNoMore}
use Rattle.cas_stored.specs.Stored.{StoredTable}
use Rattle.cas_shard.specs.Flushing.{bytes_at, frozen_at, memtables_at}
use Rattle.cas_shard.specs.Stands.{SaySame}
use Rattle.cas_flushing.specs.Laws.{SayTheSame}

-- ---- the first of several

all_split : (n : ℕ) (wss : List (List Mutation)) → all_of wss ≡ all_of (take n wss) ++ all_of (drop n wss)
all_split zero wss = refl
all_split (suc n) [] = refl
all_split (suc n) (ws ∷ wss) = ap (λ (l : List Mutation). ws ++ l) (all_split n wss) ∙ sym (append_assoc ws (all_of (take n wss)) (all_of (drop n wss)))

first_stand : (order : List Ordered) (ms ns : List MemPart) (wss : List (List Mutation)) → StandInEach order (ms ++ ns) wss → StandInEach order ms (take (length ms) wss)
first_stand order [] ns wss stand = tt
first_stand order (m ∷ ms) ns [] stand = absurd stand
first_stand order (m ∷ ms) ns (ws ∷ wss) stand = (stand.0, first_stand order ms ns wss stand.1)

first_so : {X : Type 0} (P : X → Type 0) (xs ys : List X) → AllByRecursion P (xs ++ ys) → AllByRecursion P xs
first_so P [] ys all = tt
first_so P (x ∷ xs) ys all = (all.0, first_so P xs ys all.1)

-- ---- a table

-- the first of the mutations in memory, and those behind them: the first stand in the frozen memtables
pub record HoldFirst (columns : List Column) (ms : List MemPart) (ws : List Mutation) : Type 0 where
  pub places : List (List Mutation)
  pub others : List Mutation
  pub held : HoldMutations columns ms places
  pub all : ws ≡ all_of places ++ others

first_held : (columns : List Column) (ms ns : List MemPart) (ws : List Mutation) → HoldJust columns (ms ++ ns) ws → HoldFirst columns ms ws
first_held columns ms ns ws just =
    let n : ℕ = length ms in
    let split : all_of just.places ≡ all_of (take n just.places) ++ all_of (drop n just.places) = all_split n just.places in
    record {
      places = take n just.places;
      others = all_of (drop n just.places);
      held = record {
        stand = first_stand (clustering_order columns) ms ns just.places just.held.stand;
        of = first_so (IsOfColumns columns) ms ns just.held.of;
        may = first_so (MayHold columns) (all_of (take n just.places)) (all_of (drop n just.places)) (subst (AllByRecursion (MayHold columns)) split just.held.may);
      };
      all = sym just.all ∙ split;
    }

pub frozen_held : (columns : List Column) (o : Option StoredTable) (ws : List Mutation) → HoldJust columns (memtables_at o) ws → HoldFirst columns (frozen_at o) ws
frozen_held columns None ws just = record { places = []; others = ws; held = record { stand = tt; of = tt; may = tt }; all = refl }
frozen_held columns (Some p) ws just = first_held columns (map arc_value p.parts.frozen.items) (p.parts.active ∷ []) ws just

-- ---- a memtable without bytes

none_added : (b : ℕ) (atoms : List Atom) (long : ℕ) → 1 ≤ long → added b atoms long ≡ 0 → (b ≡ 0) × (atoms ≡ [])
none_added b [] long some none = (none, refl)
none_added b (a ∷ atoms) long some none = absurd (omega (arith, some, none))

either_none : (b : Bool) (atoms : List Atom) → atoms ≡ [] → (if b then atoms else []) ≡ []
either_none true atoms none = none
either_none false atoms none = refl

silent : (b : ℕ) (ws : List Mutation) → bytes_of b ws ≡ 0 → (b ≡ 0) × ((key : List ℕ) → atoms_under key ws ≡ [])
silent b [] none = (none, λ key. refl)
silent b (w ∷ ws) none =
    let rest : (bytes_with b w ≡ 0) × ((key : List ℕ) → atoms_under key ws ≡ []) = silent (bytes_with b w) ws none in
    let own : (b ≡ 0) × (w.atoms ≡ []) = none_added b w.atoms (record_length w) (omega arith) rest.0 in
    (own.0, λ key. (λ i. either_none (same_bytes w.key key) w.atoms own.1 i ++ rest.1 key i))

say_more : (vs ws others : List Mutation) → SaySame vs ws → ((key : List ℕ) → atoms_under key others ≡ []) → SaySame vs (ws ++ others)
say_more vs ws others says none = record {
  same = λ key. subst (Same (atoms_under key vs)) (more key) (says.same key);
  no_more = λ key. subst (SaysNoMore (atoms_under key vs)) (more key) (says.no_more key);
  ends = λ key c at. subst (λ l. IsEnd l c) (more key) (says.ends key c at);
}
  where
    more : (key : List ℕ) → atoms_under key ws ≡ atoms_under key (ws ++ others)
    more key = sym (more_under key ws others ∙ ap (λ (l : List Atom). atoms_under key ws ++ l) (none key) ∙ append-nil (atoms_under key ws))

rest_stand : (order : List Ordered) (ms ns : List MemPart) (wss : List (List Mutation)) → StandInEach order (ms ++ ns) wss → StandInEach order ns (drop (length ms) wss)
rest_stand order [] ns wss stand = stand
rest_stand order (m ∷ ms) ns [] stand = absurd stand
rest_stand order (m ∷ ms) ns (ws ∷ wss) stand = rest_stand order ms ns wss stand.1

last_silent : (order : List Ordered) (m : MemPart) (wss : List (List Mutation)) → m.bytes ≡ 0 → StandInEach order (m ∷ []) wss → (key : List ℕ) → atoms_under key (all_of wss) ≡ []
last_silent order m [] none stand key = absurd stand
last_silent order m (ws ∷ []) none stand key = ap (atoms_under key) (append-nil ws) ∙ (silent 0 ws (sym stand.0.bytes ∙ none)).1 key
last_silent order m (ws ∷ vs ∷ wss) none stand key = absurd stand.1

-- what says the same as the frozen memtables says the same as all that is in memory
pub in_memory : (columns : List Column) (o : Option StoredTable) (vs ws : List Mutation) → bytes_at o ≡ 0 → HoldJust columns (memtables_at o) ws → SayTheSame columns (frozen_at o) vs
    → SaySame vs ws
unfolding first_held
in_memory columns None vs ws none just says = by just.places just.held.stand just.all
  where
    by : (wss : List (List Mutation)) → StandInEach (clustering_order columns) [] wss → all_of wss ≡ ws → SaySame vs ws
    by [] stand all = subst (SaySame vs) all (says [] tt)
    by (us ∷ wss) stand all = absurd stand
in_memory columns (Some p) vs ws none just says =
    let ms : List MemPart = map arc_value p.parts.frozen.items in
    let first : HoldFirst columns ms ws = first_held columns ms (p.parts.active ∷ []) ws just in
    subst (SaySame vs) (sym first.all)
    (say_more vs (all_of first.places) first.others (says first.places first.held.stand)
    (last_silent (clustering_order columns) p.parts.active (drop (length ms) just.places) none
    (rest_stand (clustering_order columns) ms (p.parts.active ∷ []) just.places just.held.stand)))
