-- A store's disk keeps what the history says after a step.
use Rattle.std.proofs.Common.{◌≡◌, ◌≢◌, ◌<◌, ◌≤◌, ◌+◌, ◌-◌, ◌^◌, min, inl, inr, ⊎_elim, Bool, true, false, ℕ, List, [], ◌∷◌, ◌++◌, length, map, Some, is_some, refl, sym, ap, ◌∙◌, subst, arith, append_assoc, length-append}
use Rattle.std.specs.Prelude.{slice_set, slice_get, ◌⊎◌}
use Rattle.std.proofs.lemmas.List.{flat_map_more}
use Rattle.std.proofs.lemmas.Option.{same_Some}
use Rattle.cas_types.specs.declared.schema.TableSchema.{TableSchema}
use Rattle.cas_disk.specs.Disk.{Disk}
use Rattle.cas_atoms.specs.Fits.{FitsMutation}
use Rattle.cas_atoms.specs.LogLength.{record_length}
use Rattle.cas_atoms.specs.declared.atom.Mutation.{Mutation}
use Rattle.cas_mutations.specs.Allowed.{FitsRecord}
use Rattle.cas_mutations.proofs.RecordLaws.{has_record}
use Rattle.cas_changes.specs.Saying.{frontiers_in, said_by}
use Rattle.cas_changes.specs.declared.entry.Entry.{Entry as ManifestEntry}
use Rattle.cas_replay.specs.Grammar.{AreInOrder, AscendByOne, numbers_of}
use Rattle.cas_history.specs.declared.item.Item.{Item}
use Rattle.cas_history.specs.declared.item.Item.TheVariants.{Wrote}
use Rattle.cas_journal.specs.Stores.{Told, MadeRoom, FailedToName, named}
use Rattle.cas_journal.specs.Journals.{MayTake}
use Rattle.cas_journal.proofs.Taking.{may_take, next_in_order, next_after}
use Rattle.cas_room.specs.declared.event.Event.{Event}
use Rattle.cas_room.specs.declared.event.Event.TheVariants as event
use Rattle.cas_room.specs.Dropping.{IsTrimmed}
use Rattle.cas_room.specs.Keeping.{Keeps}
use Rattle.cas_room.proofs.Flushed.{as_named}
use Rattle.cas_room.specs.Rooms.{accepted_in, mutation_of}
use Rattle.cas_shard.specs.Stands.{ShardState}
use Rattle.define_laws.proofs.Telling.{named_segments_define_nothing}
use Rattle.cas_lasting.specs.History.{History, changes_told}
use Rattle.cas_lasting.specs.Entered.{ListFiles}
use Rattle.cas_lasting.specs.Nodes.{State, StandsFor, LastsFor, all_in, files_in}
use Rattle.cas_lasting.proofs.Behind.{behind_named, behind_with}
use Rattle.cas_lasting.proofs.Dropped.{next_behind, ordered_behind}
use Rattle.cas_lasting.proofs.Files.{list_named, list_same, told_named}
use Rattle.cas_recovery.specs.Restored.{IsBehind}
use Rattle.cas_recovery.proofs.Places.{same_place, get_here, get_other}

-- ---- lists

pub one_accepted : (list : List (Item Event)) (m : Mutation) (session call : ℕ)
    → length (accepted_in (list ++ Wrote m.shard session call m.number (event.Accepted m) ∷ [])) ≡ length (accepted_in list) + 1
one_accepted list m session call =
    ap length (sym (flat_map_more mutation_of [] list (Wrote m.shard session call m.number (event.Accepted m)))) ∙ length-append (accepted_in list) (m ∷ [])

-- all that was found and accepted, with one mutation more
all_with_one : (found : List Mutation) (list : List (Item Event)) (m : Mutation) (session call : ℕ)
    → found ++ accepted_in (list ++ Wrote m.shard session call m.number (event.Accepted m) ∷ []) ≡ (found ++ accepted_in list) ++ m ∷ []
all_with_one found list m session call =
    ap (λ ms. found ++ ms) (sym (flat_map_more mutation_of [] list (Wrote m.shard session call m.number (event.Accepted m)))) ∙ sym (append_assoc found (accepted_in list) (m ∷ []))

-- where none is accepted, all are as they were
pub still_in_order : (found : List Mutation) (s t : State) → t.list ≡ s.list → AreInOrder (all_in found s) → AreInOrder (all_in found t)
still_in_order found s t list ordered = subst (λ l. AreInOrder (found ++ accepted_in l)) (sym list) ordered

pub still_next : (found : List Mutation) (s t : State) (xs : List ShardState) → t.list ≡ s.list
    → ((n : ℕ) (x : ShardState) → slice_get xs n ≡ Some x → AscendByOne (numbers_of n (all_in found s) ++ (x.number + 1) ∷ []))
    → (n : ℕ) (x : ShardState) → slice_get xs n ≡ Some x → AscendByOne (numbers_of n (all_in found t) ++ (x.number + 1) ∷ [])
still_next found s t xs list next n x there = subst (λ l. AscendByOne (numbers_of n (found ++ accepted_in l) ++ (x.number + 1) ∷ [])) (sym list) (next n x there)

-- the names of segments tell no frontier
named_frontiers : (entries : List ManifestEntry) (numbers : List ℕ) → frontiers_in (said_by (entries ++ named numbers)) ≡ frontiers_in (said_by entries)
named_frontiers entries numbers = ap (λ parts. map (λ p. p.frontier) parts) (as_named entries numbers).parts

-- the next numbers of shards that are the same
same_next : (s t : State) (n : ℕ) (x y : ShardState) (told : List Mutation) → slice_get s.shards n ≡ Some x → t.shards ≡ slice_set s.shards n y → y.number ≡ x.number
    → ((k : ℕ) (z : ShardState) → slice_get s.shards k ≡ Some z → AscendByOne (numbers_of k told ++ (z.number + 1) ∷ []))
    → (k : ℕ) (z : ShardState) → slice_get t.shards k ≡ Some z → AscendByOne (numbers_of k told ++ (z.number + 1) ∷ [])
same_next s t n x y told there shards same next k z got = ⊎_elim here elsewhere (same_place k n)
  where
    got_set : slice_get (slice_set s.shards n y) k ≡ Some z
    got_set = subst (λ (xs : List ShardState). slice_get xs k ≡ Some z) shards got

    here : k ≡ n → AscendByOne (numbers_of k told ++ (z.number + 1) ∷ [])
    here e =
        let at_k : slice_get (slice_set s.shards n y) k ≡ Some y =
        subst (λ (j : ℕ). slice_get (slice_set s.shards n y) j ≡ Some y) (sym e) (get_here s.shards n x y there) in
        let is : y ≡ z = same_Some y z (sym at_k ∙ got_set) in
        subst (λ (j : ℕ). AscendByOne (numbers_of k told ++ (j + 1) ∷ [])) (sym same ∙ ap (λ (w : ShardState). w.number) is)
        (next k x (subst (λ (j : ℕ). slice_get s.shards j ≡ Some x) (sym e) there))

    elsewhere : k ≢ n → AscendByOne (numbers_of k told ++ (z.number + 1) ∷ [])
    elsewhere other = next k z (sym (get_other s.shards n k y other) ∙ got_set)

-- ---- a log that is trimmed

pub not_both : (b : Bool) → b ≡ true → b ≡ false → ⊥
not_both b on off = cc

-- a history that doesn't say that its log is trimmed
pub untrimmed : {X : Type 0} → false ≡ true → X
untrimmed e = absurd (not_both false e refl)

-- what the history says of it stays, where the same is told, and nothing is accepted
pub still_trimmed : (h k : History) (found : List Mutation) (s t : State) (told : Told) → t.list ≡ s.list
    → (k.trimmed ≡ true → (h.trimmed ≡ true) × (is_some s.journal.first ≡ false → is_some t.journal.first ≡ false))
    → (h.trimmed ≡ true → (is_some s.journal.first ≡ false) × IsTrimmed (said_by told.entries) (all_in found s))
    → k.trimmed ≡ true → (is_some t.journal.first ≡ false) × IsTrimmed (said_by told.entries) (all_in found t)
still_trimmed h k found s t told list trimmed was on =
    let (before, going) = trimmed on in
    let (off, is) = was before in
    (going off, subst (λ (l : List (Item Event)). IsTrimmed (said_by told.entries) (found ++ accepted_in l)) (sym list) is)

-- another history that tells the same changes, and of as many mutations that they were acknowledged; nor that its log is trimmed, where the first didn't
pub lasts_as : (h k : History) (found : List Mutation) (s : State) (d : Disk) (told : Told) → k.acknowledged ≡ h.acknowledged → k.changes ≡ h.changes
    → (k.trimmed ≡ true → h.trimmed ≡ true) → LastsFor h found s d told → LastsFor k found s d told
lasts_as h k found s d told acks changes trimmed lasts = record {
  keeps = lasts.keeps;
  tables = lasts.tables;
  shards = lasts.shards;
  few = lasts.few;
  ordered = lasts.ordered;
  next = lasts.next;
  counted = lasts.counted;
  acknowledged = (omega (arith, lasts.acknowledged.0, acks), omega (arith, lasts.acknowledged.1, acks));
  whole = lasts.whole;
  behind = lasts.behind;
  files = lasts.files;
  changes = lasts.changes ∙ sym changes;
  frontiers = lasts.frontiers;
  trimmed = λ on. lasts.trimmed (trimmed on);
}

-- memory doesn't say whether the log is trimmed
pub stands_untrimmed : (h : History) (s : State) → StandsFor h s → StandsFor (record h { trimmed = false }) s
stands_untrimmed h s stands = record {
  limits = stands.limits;
  tables = stands.tables;
  clock = stands.clock;
  session = stands.session;
  calls = stands.calls;
  disk = stands.disk;
  count = stands.count;
  shards = stands.shards;
  entered = stands.entered;
  memory = stands.memory;
  filled = stands.filled;
}

-- ---- a step that enters nothing, and leaves the room alone

pub lasts_still : (h k : History) (found : List Mutation) (s t : State) (d e : Disk) (told : Told) (n : ℕ) (x y : ShardState) → k.acknowledged ≡ h.acknowledged
    → k.changes ≡ h.changes → slice_get s.shards n ≡ Some x → t.shards ≡ slice_set s.shards n y → y.number ≡ x.number
    → ((l : List (Item Event)) → l ≡ s.list → (c : ℕ) → c ≡ s.committed → Keeps s.journal d s.list s.committed found told → Keeps t.journal e l c found told)
    → t.list ≡ s.list → t.committed ≡ s.committed → t.tables ≡ s.tables → t.limits ≡ s.limits → t.accepted ≡ s.accepted
    → (is_some t.journal.first ≡ false → is_some s.journal.first ≡ false) → t.last_file ≡ s.last_file → t.live ≡ s.live
    → files_in t.shards ≡ files_in s.shards → t.frontiers ≡ s.frontiers
    → (k.trimmed ≡ true → (h.trimmed ≡ true) × (is_some s.journal.first ≡ false → is_some t.journal.first ≡ false)) → LastsFor h found s d told → LastsFor k found t e told
lasts_still h k found s t d e told n x y acks changes there shards same keeps list committed tables limits accepted going last live files frontiers trimmed lasts = record {
  keeps = keeps t.list list t.committed committed lasts.keeps;
  tables = lasts.tables ∙ sym tables;
  shards = lasts.shards ∙ ap (λ l. l.shards) (sym limits);
  few = lasts.few;
  ordered = still_in_order found s t list lasts.ordered;
  next = still_next found s t t.shards list (same_next s t n x y (all_in found s) there shards same lasts.next);
  counted = omega (arith, lasts.counted, accepted, ap (λ l. length (accepted_in l)) list);
  acknowledged = (omega (arith, lasts.acknowledged.0, acks, committed), omega (arith, lasts.acknowledged.1, acks, ap (λ l. length (accepted_in l)) list));
  whole = λ on. let all = lasts.whole (going on) in omega (arith, all, committed, ap (λ l. length (accepted_in l)) list);
  behind = behind_with (said_by told.entries) s t n x y there shards (omega (arith, same)) last live lasts.behind;
  files = list_same (said_by told.entries) (files_in s.shards) (files_in t.shards) files lasts.files;
  changes = lasts.changes ∙ sym changes;
  frontiers = frontiers ∙ lasts.frontiers;
  trimmed = still_trimmed h k found s t told list trimmed lasts.trimmed;
}

-- ---- a mutation that may be taken

pub may_be_taken : (h : History) (found : List Mutation) (s : State) (d : Disk) (t : Told) (m : Mutation) (table : TableSchema) (x : ShardState) → LastsFor h found s d t
    → slice_get s.tables m.table ≡ Some table → FitsMutation table s.limits.shards m → record_length m < 2 ^ 32 → slice_get s.shards m.shard ≡ Some x
    → m.number ≡ x.number + 1 → MayTake t m
may_be_taken h found s d t m table x lasts there fits short seat number =
    let all : all_in found s ≡ lasts.keeps.has.dropped ++ t.taken = sym lasts.keeps.has.all in
    may_take t m fitting (ordered_behind lasts.keeps.has.dropped t.taken (subst AreInOrder all lasts.ordered))
    (next_behind m.shard m.number lasts.keeps.has.dropped t.taken
    (subst (λ ms. AscendByOne (numbers_of m.shard ms ++ m.number ∷ [])) all
    (subst (λ (k : ℕ). AscendByOne (numbers_of m.shard (all_in found s) ++ k ∷ [])) (sym number) (lasts.next m.shard x seat))))
  where
    fitting : FitsRecord (said_by t.entries).tables (said_by t.entries).shards m
    fitting = record {
      table = table;
      there = subst (λ (ts : List TableSchema). slice_get ts m.table ≡ Some table) (sym lasts.tables) there;
      fits = subst (λ (k : ℕ). FitsMutation table k m) (sym lasts.shards) fits;
      spelled = has_record table s.limits.shards m fits short;
    }

-- ---- room that was made

pub few_failed : (before now : List ManifestEntry) → FailedToName before now → length before ≤ 1 → length now ≤ 1
few_failed before now (inl same) few = subst (λ (es : List ManifestEntry). length es ≤ 1) (sym same) few
few_failed before now (inr named) few = subst (λ (es : List ManifestEntry). length es ≤ 1) (sym named.1) (omega arith)

pub lasts_with_room : (h k : History) (found : List Mutation) (s t : State) (d e : Disk) (told u : Told) (n : ℕ) (x y : ShardState) → k.acknowledged ≡ h.acknowledged
    → k.changes ≡ h.changes → slice_get s.shards n ≡ Some x → t.shards ≡ slice_set s.shards n y → y.number ≡ x.number → MadeRoom told u → Keeps t.journal e t.list t.committed found u
    → t.list ≡ s.list → t.committed ≡ s.committed → t.tables ≡ s.tables → t.limits ≡ s.limits → t.accepted ≡ s.accepted
    → (is_some t.journal.first ≡ false → is_some s.journal.first ≡ false) → t.last_file ≡ s.last_file → t.live ≡ s.live
    → files_in t.shards ≡ files_in s.shards → t.frontiers ≡ s.frontiers → k.trimmed ≡ false → LastsFor h found s d told → LastsFor k found t e u
lasts_with_room h k found s t d e told u n x y acks changes there shards same made keeps list committed tables limits accepted going last live files frontiers untrimmed lasts =
    let defined = named_segments_define_nothing told.entries made.numbers in
    record {
      keeps = keeps;
      tables = ap (λ es. (said_by es).tables) made.entries ∙ defined.0 ∙ lasts.tables ∙ sym tables;
      shards = ap (λ es. (said_by es).shards) made.entries ∙ defined.1 ∙ lasts.shards ∙ ap (λ l. l.shards) (sym limits);
      few = few_failed told.failed u.failed made.failed lasts.few;
      ordered = still_in_order found s t list lasts.ordered;
      next = still_next found s t t.shards list (same_next s t n x y (all_in found s) there shards same lasts.next);
      counted = omega (arith, lasts.counted, accepted, ap (λ l. length (accepted_in l)) list);
      acknowledged = (omega (arith, lasts.acknowledged.0, acks, committed), omega (arith, lasts.acknowledged.1, acks, ap (λ l. length (accepted_in l)) list));
      whole = λ on. let all = lasts.whole (going on) in omega (arith, all, committed, ap (λ l. length (accepted_in l)) list);
      behind =
          subst (λ es. IsBehind (said_by es) t.shards t.last_file t.live) (sym made.entries)
          (behind_named told.entries made.numbers t.shards t.last_file t.live (behind_with (said_by told.entries) s t n x y there shards (omega (arith, same)) last live lasts.behind));
      files =
          subst (λ es. ListFiles (said_by es) (files_in t.shards)) (sym made.entries)
          (list_named told.entries made.numbers (files_in t.shards) (list_same (said_by told.entries) (files_in s.shards) (files_in t.shards) files lasts.files));
      changes = ap changes_told made.entries ∙ told_named told.entries made.numbers ∙ lasts.changes ∙ sym changes;
      frontiers = frontiers ∙ lasts.frontiers ∙ sym (named_frontiers told.entries made.numbers) ∙ ap (λ es. frontiers_in (said_by es)) (sym made.entries);
      trimmed = λ on. absurd (not_both k.trimmed on untrimmed);
    }

-- ---- a mutation that was taken

-- how many were accepted, where that counter doesn't stand at its end
counts : (n a b : ℕ) → n ≤ a → n + 1 < 2 ^ 64 → b ≡ min (a + 1) (2 ^ 64 - 1) → n + 1 ≤ b
counts n a b few room is = omega (arith, few, room, is)

module _ (h k : History) (found : List Mutation) (s t : State) (d e : Disk) (told u v : Told) (m : Mutation) (x y : ShardState) (there : slice_get s.shards m.shard ≡ Some x)
    (shards : t.shards ≡ slice_set s.shards m.shard y) (number : m.number ≡ x.number + 1) (new : y.number ≡ m.number) (made : MadeRoom told u)
    (entries : v.entries ≡ u.entries) (failed : v.failed ≡ u.failed) (lasts : LastsFor h found s d told) where
  abbrev before : List Mutation
  before = all_in found s

  comes : AscendByOne (numbers_of m.shard before ++ m.number ∷ [])
  comes = subst (λ (j : ℕ). AscendByOne (numbers_of m.shard before ++ j ∷ [])) (sym number) (lasts.next m.shard x there)

  next_now : (j : ℕ) (z : ShardState) → slice_get t.shards j ≡ Some z → AscendByOne (numbers_of j (before ++ m ∷ []) ++ (z.number + 1) ∷ [])
  next_now j z got = ⊎_elim here elsewhere (same_place j m.shard)
    where
      got_set : slice_get (slice_set s.shards m.shard y) j ≡ Some z
      got_set = subst (λ (xs : List ShardState). slice_get xs j ≡ Some z) shards got

      here : j ≡ m.shard → AscendByOne (numbers_of j (before ++ m ∷ []) ++ (z.number + 1) ∷ [])
      here is =
          let at_j : slice_get (slice_set s.shards m.shard y) j ≡ Some y =
          subst (λ (i : ℕ). slice_get (slice_set s.shards m.shard y) i ≡ Some y) (sym is) (get_here s.shards m.shard x y there) in
          let same : y ≡ z = same_Some y z (sym at_j ∙ got_set) in
          next_after before m comes j (x.number + 1) (z.number + 1) (λ _. ap (λ (w : ShardState). w.number + 1) (sym same) ∙ ap (λ i. i + 1) new) (λ other. absurd (other (sym is)))
          (lasts.next j x (subst (λ (i : ℕ). slice_get s.shards i ≡ Some x) (sym is) there))

      elsewhere : j ≢ m.shard → AscendByOne (numbers_of j (before ++ m ∷ []) ++ (z.number + 1) ∷ [])
      elsewhere other =
          next_after before m comes j (z.number + 1) (z.number + 1) (λ same. absurd (other (sym same))) (λ _. refl)
          (lasts.next j z (sym (get_other s.shards m.shard j y other) ∙ got_set))

  pub lasts_taken : (session call : ℕ) → t.list ≡ s.list ++ Wrote m.shard session call m.number (event.Accepted m) ∷ [] → t.tables ≡ s.tables → t.limits ≡ s.limits
      → t.accepted ≡ min (s.accepted + 1) (2 ^ 64 - 1) → s.accepted + 1 < 2 ^ 64 → Keeps t.journal e t.list t.committed found v
      → k.acknowledged ≤ h.acknowledged + 1 → (k.acknowledged ≤ h.acknowledged) × (s.committed ≤ t.committed) ⊎ (t.committed ≡ t.accepted)
      → (is_some t.journal.first ≡ false → t.committed ≡ t.accepted) → t.last_file ≡ s.last_file → t.live ≡ s.live
      → files_in t.shards ≡ files_in s.shards → t.frontiers ≡ s.frontiers → k.changes ≡ h.changes → k.trimmed ≡ false → LastsFor k found t e v
  lasts_taken session call list tables limits accepted room keeps acks either going last live files frontiers changes untrimmed =
      let defined = named_segments_define_nothing told.entries made.numbers in
      let longer : length (accepted_in t.list) ≡ length (accepted_in s.list) + 1 = ap (λ l. length (accepted_in l)) list ∙ one_accepted s.list m session call in
      let all : all_in found t ≡ before ++ m ∷ [] = ap (λ l. found ++ accepted_in l) list ∙ all_with_one found s.list m session call in
      let counted : length (accepted_in s.list) + 1 ≤ t.accepted = counts (length (accepted_in s.list)) s.accepted t.accepted lasts.counted (omega (arith, lasts.counted, room)) accepted in
      record {
        keeps = keeps;
        tables = ap (λ es. (said_by es).tables) (entries ∙ made.entries) ∙ defined.0 ∙ lasts.tables ∙ sym tables;
        shards = ap (λ es. (said_by es).shards) (entries ∙ made.entries) ∙ defined.1 ∙ lasts.shards ∙ ap (λ l. l.shards) (sym limits);
        few = subst (λ es. length es ≤ 1) (sym failed) (few_failed told.failed u.failed made.failed lasts.few);
        ordered = subst AreInOrder (sym all) (next_in_order before m comes lasts.ordered);
        next =
            subst (λ ms. (j : ℕ) (z : ShardState) → slice_get t.shards j ≡ Some z → AscendByOne (numbers_of j ms ++ (z.number + 1) ∷ [])) (sym all) next_now;
        counted = omega (arith, longer, counted);
        acknowledged = (acks_by either longer counted, omega (arith, longer, acks, lasts.acknowledged.1));
        whole = λ on. let same = going on in omega (arith, same, longer, counted);
        behind =
            subst (λ es. IsBehind (said_by es) t.shards t.last_file t.live) (sym (entries ∙ made.entries))
            (behind_named told.entries made.numbers t.shards t.last_file t.live
            (behind_with (said_by told.entries) s t m.shard x y there shards (omega (arith, number, new)) last live lasts.behind));
        files =
            subst (λ es. ListFiles (said_by es) (files_in t.shards)) (sym (entries ∙ made.entries))
            (list_named told.entries made.numbers (files_in t.shards) (list_same (said_by told.entries) (files_in s.shards) (files_in t.shards) files lasts.files));
        changes = ap changes_told (entries ∙ made.entries) ∙ told_named told.entries made.numbers ∙ lasts.changes ∙ sym changes;
        frontiers = frontiers ∙ lasts.frontiers ∙ sym (named_frontiers told.entries made.numbers) ∙ ap (λ es. frontiers_in (said_by es)) (sym (entries ∙ made.entries));
        trimmed = λ on. absurd (not_both k.trimmed on untrimmed);
      }
    where
      acks_by : (k.acknowledged ≤ h.acknowledged) × (s.committed ≤ t.committed) ⊎ (t.committed ≡ t.accepted)
          → length (accepted_in t.list) ≡ length (accepted_in s.list) + 1 → length (accepted_in s.list) + 1 ≤ t.accepted → k.acknowledged ≤ t.committed
      acks_by (inl still) longer counted = omega (arith, still.0, still.1, lasts.acknowledged.0)
      acks_by (inr all_of) longer counted = omega (arith, all_of, counted, acks, lasts.acknowledged.1)
