-- What is too much for one table file, in the words of the history.
use Rattle.std.proofs.Common.{◌≡◌, ◌⊎◌, inl, inr, ℕ, Bool, true, cond, List, [], ◌∷◌, ◌++◌, length, map, Option, None, Some, refl, sym, ap, ◌∙◌, subst, arith, append_assoc, append-nil}
use Rattle.std.proofs.lemmas.Cmp.{tied_itself}
use Rattle.std.proofs.lemmas.Grind.{flat_map-append}
use Rattle.std.specs.Arc.{arc_value}
use Rattle.std.specs.List.{AllByRecursion}
use Rattle.std.specs.Ordering.{is_eq}
use Rattle.std.specs.Prelude.{slice_get}
use Rattle.cas_types.proofs.OrderLaws.{bytes_orders}
use Rattle.cas_types.specs.declared.schema.Column.{Column}
use Rattle.cas_types.specs.declared.schema.TableSchema.{TableSchema}
use Rattle.cas_bounds.specs.ClusteringOrder.{clustering_order}
use Rattle.cas_bounds.specs.declared.cuts.Cut.{Cut}
use Rattle.cas_bounds.specs.declared.order.Ordered.{Ordered}
use Rattle.cas_atoms.specs.Coordinates.{same_bytes}
use Rattle.cas_atoms.specs.declared.atom.Atom.{Atom}
use Rattle.cas_atoms.specs.declared.atom.Mutation.{Mutation}
use Rattle.cas_disk.specs.Disk.{Disk}
use Rattle.cas_flush.specs.Flushed.{AreOf, EndsLong, FlushFault, Hinders, any, at_level_0, is_below, said_at, said_under}
use Rattle.cas_flushing.specs.Flushed.{head_of}
use Rattle.cas_memtable.specs.Kept.{HoldJust, MayHold, StandInEach, all_of, atoms_under}
use Rattle.cas_memtable.specs.declared.memtable.MemPart.{MemPart}
use Rattle.cas_memtable.proofs.Keeping.{more_under}
use Rattle.cas_partition.specs.Ends.{AllAtEnds, IsEnd}
use Rattle.cas_partition.proofs.Ends.{end_before}
use Rattle.cas_shard.specs.Flushing.{frozen_at, memtables_at}
use Rattle.cas_shard.specs.Stands.{ShardState}
use Rattle.cas_sstwrite.specs.Causes.{IsUnfit, TooMuch}
use Rattle.cas_sstwrite.specs.declared.fault.Measure.{Measure}
use Rattle.cas_sstwrite.specs.declared.fault.Measure.TheVariants.{FileBytes, BlockBytes, Partitions}
use Rattle.cas_sstwrite.specs.declared.fault.WriteFault.{WriteFault}
use Rattle.cas_sstwrite.specs.declared.fault.WriteFault.TheVariants as write
use Rattle.cas_stored.specs.Stored.{StoredTable}
use Rattle.cas_streams.specs.Flat.{Change, changes}
use Rattle.cas_streams.specs.Merged.{flat_of}
use Rattle.cas_streams.specs.NoMore.{SaysNoMore}
use Rattle.cas_streams.proofs.NoMore.{no_more_then, says_no_more}
use Rattle.cas_streams.proofs.Weaves.{all_so}
use Rattle.cas_fragments.specs.declared.heads.Version.TheVariants.{Second}
use Rattle.cas_tables.specs.Contents.{Partition}
use Rattle.cas_tables.specs.Files.{front_bytes}
use Rattle.cas_tables.specs.Spelling.{header_bytes}
use Rattle.cas_tables.proofs.IndexFits.{entries_long}
use Rattle.cas_lasting.specs.Flushed.{WhyTooMany}
use Rattle.cas_lasting.specs.History.{History, shard_at}
use Rattle.cas_lasting.specs.Nodes.{State, StandsFor, disk_of}
use Rattle.cas_lasting.specs.TooMuch.{AllIsTooMuch, IsOverfull, IsTooMuch, OneIsTooMuch}
use Rattle.cas_lasting.specs.Inner.Going.{HoldTooMuch, IsOfSize, Quiet, WhyNoFile}
use Rattle.cas_lasting.proofs.FlushFiles.{LastOf, all_append, last_of}
use Rattle.cas_lasting.proofs.FlushSteps.{quiet_stands, with_state}

-- ---- a part says no more than the whole

first_so : (Q : Atom → Type 0) (M R : List Atom) → AllByRecursion Q (M ++ R) → AllByRecursion Q M
first_so Q [] R all = tt
first_so Q (a ∷ M) R all = (all.0, first_so Q M R all.1)

middle_so : (Q : Atom → Type 0) (L M R : List Atom) → AllByRecursion Q (L ++ (M ++ R)) → AllByRecursion Q M
middle_so Q [] M R all = first_so Q M R all
middle_so Q (a ∷ L) M R all = middle_so Q L M R all.1

part_says : (L M R A : List Atom) → A ≡ L ++ (M ++ R) → SaysNoMore M A
part_says L M R A is = subst (SaysNoMore M) (sym is) (says_no_more M (L ++ (M ++ R)) (λ Q by all. middle_so Q L M R all))

-- ---- partitions

itself : (key : List ℕ) → same_bytes key key ≡ true
itself key = ap is_eq (tied_itself bytes_orders.total key)

-- what a partition says is among what all of them do
one_among : (front : List Partition) (p : Partition) (ps : List Partition) → SaysNoMore (flat_of p.stream) (said_under p.key (front ++ p ∷ ps))
one_among front p ps =
    part_says (said_under p.key front) (flat_of p.stream) (said_under p.key ps) (said_under p.key (front ++ p ∷ ps))
    (flat_map-append (said_at p.key) front (p ∷ ps)
    ∙ ap (λ (b : Bool). said_under p.key front ++ (cond b (flat_of p.stream) [] ++ said_under p.key ps)) (itself p.key))

each_among : (passes : List ℕ → Bool) (B : List ℕ → List Atom) (front ps : List Partition)
    → ((key : List ℕ) → passes key ≡ true → SaysNoMore (said_under key (front ++ ps)) (B key)) → AllByRecursion (λ p. passes p.key ≡ true) ps
    → AllByRecursion (λ p. SaysNoMore (flat_of p.stream) (B p.key)) ps
each_among passes B front [] says within = tt
each_among passes B front (p ∷ ps) says within = (
  no_more_then (flat_of p.stream) (said_under p.key (front ++ p ∷ ps)) (B p.key) (one_among front p ps) (says p.key within.0),
  each_among passes B (front ++ p ∷ []) ps
      (λ key passed. subst (λ (qs : List Partition). SaysNoMore (said_under key qs) (B key)) (sym (append_assoc front (p ∷ []) ps)) (says key passed)) within.1,
)

-- ---- ends of range deletions

-- ends among some mutations are ends among others
abbrev Ending : List Mutation → List Mutation → Type 0
Ending vs ws = (key : List ℕ) (c : Cut) → IsEnd (atoms_under key vs) c → IsEnd (atoms_under key ws) c

all_ending : (vs ws : List Mutation) → Ending vs ws → (key : List ℕ) (ms : List Change) → AllAtEnds (atoms_under key vs) ms → AllAtEnds (atoms_under key ws) ms
all_ending vs ws goes key ms at = all_so (λ m. IsEnd (atoms_under key vs) m.at) (λ m. IsEnd (atoms_under key ws) m.at) (λ m e. goes key m.at e) ms at

each_ending : (vs ws : List Mutation) → Ending vs ws → (ps : List Partition) → AllByRecursion (λ p. AllAtEnds (atoms_under p.key vs) (changes p.stream.fragments)) ps
    → AllByRecursion (λ p. AllAtEnds (atoms_under p.key ws) (changes p.stream.fragments)) ps
each_ending vs ws goes ps at =
    all_so (λ p. AllAtEnds (atoms_under p.key vs) (changes p.stream.fragments)) (λ p. AllAtEnds (atoms_under p.key ws) (changes p.stream.fragments))
    (λ p e. all_ending vs ws goes p.key (changes p.stream.fragments) e) ps at

-- ---- what frozen memtables hold

-- Mutations that stand in them, which say no more than these, and whose range deletions begin and end where theirs do.
record HeldOf (order : List Ordered) (ms : List MemPart) (ws : List Mutation) : Type 0 where
  places : List (List Mutation)
  stand : StandInEach order ms places
  no_more : (key : List ℕ) → SaysNoMore (atoms_under key (all_of places)) (atoms_under key ws)
  ends : Ending (all_of places) ws

-- of all that memory has of a table in a shard some stand there
held_of : (columns : List Column) (o : Option StoredTable) (ws : List Mutation) → HoldJust columns (memtables_at o) ws → HeldOf (clustering_order columns) (frozen_at o) ws
held_of columns None ws has = record { places = []; stand = tt; no_more = λ key. part_says [] [] (atoms_under key ws) (atoms_under key ws) refl; ends = λ key c at. absurd at.has }
held_of columns (Some t) ws has =
    let l : LastOf (clustering_order columns) (map arc_value t.parts.frozen.items) t.parts.active has.places =
    last_of (clustering_order columns) (map arc_value t.parts.frozen.items) t.parts.active has.places has.held.stand in
    let parts : (key : List ℕ) → atoms_under key ws ≡ atoms_under key (all_of l.before) ++ atoms_under key (all_of (l.last ∷ [])) =
    λ key. ap (atoms_under key) (sym has.all ∙ ap all_of l.all ∙ all_append l.before (l.last ∷ [])) ∙ more_under key (all_of l.before) (all_of (l.last ∷ [])) in
    record {
      places = l.before;
      stand = l.stand;
      no_more = λ key. part_says [] (atoms_under key (all_of l.before)) (atoms_under key (all_of (l.last ∷ []))) (atoms_under key ws) (parts key);
      ends = λ key c at.
          subst (λ (atoms : List Atom). IsEnd atoms c) (sym (parts key)) (end_before (atoms_under key (all_of l.before)) (atoms_under key (all_of (l.last ∷ []))) c at);
    }

-- ---- what is too much

module _ (t : TableSchema) (shard : ℕ) (ms : List MemPart) (ws : List Mutation) (held : HeldOf (clustering_order t.columns) ms ws) (number : ℕ) where
  one_is : (e : WriteFault) → (h : Hinders t.columns (head_of t shard number) ms e)
      → ((what : Measure) × TooMuch what (length h.before) (length (front_bytes (at_level_0 (head_of t shard number) h.before))) h.key h.stream.top h.stream.fragments)
      ⊎ IsUnfit h.key h.stream.fragments
      → OneIsTooMuch t shard ws
  one_is e h why =
      let are : AreOf (is_below h.key) (all_of held.places) h.before = h.below held.places held.stand in
      record {
        number = number;
        before = h.before;
        say = record {
          each = h.stand.each;
          ascend = h.stand.ascend;
          no_more = each_among (is_below h.key) (λ key. atoms_under key ws) [] h.before
              (λ key passed. no_more_then (said_under key h.before) (atoms_under key (all_of held.places)) (atoms_under key ws) (are.no_more key passed) (held.no_more key))
              are.within;
          ends = each_ending (all_of held.places) ws held.ends h.before are.ends;
        };
        key = h.key;
        stream = h.stream;
        says = record {
          key_fits = h.says.key_fits;
          formed = h.says.formed;
          cuts = h.says.cuts;
          no_more =
              no_more_then (flat_of h.stream) (atoms_under h.key (all_of held.places)) (atoms_under h.key ws) (h.says.no_more held.places held.stand)
              (held.no_more h.key);
          ends = all_ending (all_of held.places) ws held.ends h.key (changes h.stream.fragments) (h.says.ends held.places held.stand);
        };
        why = why;
      }

  of_measure : (what : Measure) (limit : ℕ) → Hinders t.columns (head_of t shard number) ms (write.TooMany what limit) → OneIsTooMuch t shard ws
  of_measure what limit h =
      one_is (write.TooMany what limit) h
      (inl (
        what,
        subst (λ (k : ℕ). TooMuch what k (length (front_bytes (at_level_0 (head_of t shard number) h.before))) h.key h.stream.top h.stream.fragments)
            (entries_long Second (length (header_bytes (head_of t shard number))) h.before) h.causes.1,
      ))

  at_the_end : (what : Measure) (limit : ℕ) → EndsLong t.columns (head_of t shard number) ms what limit → AllIsTooMuch t shard ws
  at_the_end FileBytes limit l =
      let are : AreOf any (all_of held.places) l.partitions = l.all held.places held.stand in
      record {
        number = number;
        partitions = l.partitions;
        say = record {
          each = l.stand.each;
          ascend = l.stand.ascend;
          no_more = each_among any (λ key. atoms_under key ws) [] l.partitions
              (λ key passed. no_more_then (said_under key l.partitions) (atoms_under key (all_of held.places)) (atoms_under key ws) (are.no_more key passed) (held.no_more key))
              are.within;
          ends = each_ending (all_of held.places) ws held.ends l.partitions are.ends;
        };
        facts = l.why.1.0;
        of_atoms = l.why.1.1;
        long = l.why.1.2;
      }
  at_the_end BlockBytes limit l = absurd l.why
  at_the_end Partitions limit l = absurd l.why

  is_too_much : (e : WriteFault) → IsOfSize e → FlushFault t.columns (head_of t shard number) ms e → IsTooMuch t shard ws
  is_too_much write.Failed of why = absurd of
  is_too_much write.Order of why = absurd of
  is_too_much (write.TooMany what limit) of (inl h) = inl (of_measure what limit h)
  is_too_much (write.TooMany what limit) of (inr l) = inr (at_the_end what limit l)
  is_too_much write.Unfit of h = inl (one_is write.Unfit h (inr h.causes))
  is_too_much write.Mem of why = absurd of

-- memtables that hold too much, in a shard that has just these mutations in memory
held_too_much : (t : TableSchema) (n : ℕ) (y : ShardState) (ws : List Mutation) → HoldJust t.columns (memtables_at (slice_get y.stores t.number)) ws
    → HoldTooMuch t n (frozen_at (slice_get y.stores t.number)) → IsOverfull t n ws
held_too_much t n y ws has (number, e, of, why) = (
  subst (AllByRecursion (MayHold t.columns)) has.all has.held.may,
  is_too_much t n (frozen_at (slice_get y.stores t.number)) ws (held_of t.columns (slice_get y.stores t.number) ws has) number e of why,
)

-- why no file is begun or written, some quiet steps later
why_full : (t : TableSchema) (n k : ℕ) (s u : State) (d e : Disk) (y : ShardState) → Quiet s u d e → slice_get s.tables k ≡ Some t → t.number ≡ k → slice_get s.shards n ≡ Some y
    → (h : History) → StandsFor h s → WhyNoFile t n s.live s.last_file (frozen_at (slice_get y.stores k))
    → WhyTooMany t n (shard_at h n) (h.unflushed n t.number) (disk_of u)
why_full t n k s u d e y quiet table number at h stands (inl (inl live)) = inl (inl (omega (arith, live, quiet.live)))
why_full t n k s u d e y quiet table number at h stands (inl (inr last)) = inl (inr (omega (arith, last, quiet.last)))
why_full t n k s u d e y quiet table number at h stands (inr held) =
    let at_t : slice_get s.tables t.number ≡ Some t = subst (λ (j : ℕ). slice_get s.tables j ≡ Some t) (sym number) table in
    inr (inr (held_too_much t n y (h.unflushed n t.number)
    (stands.memory n t.number y at [] t (ap (λ (ts : List TableSchema). slice_get ts t.number) (append-nil s.tables) ∙ at_t))
    (subst (λ (j : ℕ). HoldTooMuch t n (frozen_at (slice_get y.stores j))) (sym number) held)))

-- the same, where other quiet steps were before
pub why_full_then : (t : TableSchema) (n k : ℕ) (s m u : State) (c d e : Disk) (y : ShardState) → Quiet s m c d → Quiet m u d e → slice_get m.tables k ≡ Some t → t.number ≡ k
    → slice_get m.shards n ≡ Some y → (h : History) → StandsFor h s → WhyNoFile t n m.live m.last_file (frozen_at (slice_get y.stores k))
    → WhyTooMany t n (shard_at h n) (h.unflushed n t.number) (disk_of u)
why_full_then t n k s m u c d e y first second table number at h stands full =
    why_full t n k m u d e y second table number at (with_state h m) (quiet_stands s m c d first h stands) full
