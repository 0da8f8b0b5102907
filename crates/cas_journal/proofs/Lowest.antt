-- What is left of a journal without its lowest segment.
use Rattle.std.proofs.Common.{◌≡◌, ◌≢◌, ◌⊎◌, inl, inr, ⊎_elim, ℕ, ◌+◌, ◌-◌, ◌<◌, ◌≤◌, ◌^◌, Bool, true, false, cond, not, eqb, List, [], ◌∷◌, ◌++◌, length, map, take, drop, Option, None, Some, refl, sym, ap, subst, ◌∙◌, arith, append_assoc, length-append}
use Rattle.std.specs.Prelude.{filter, Result, Err, IfErr}
use Rattle.std.specs.List.{AllByRecursion}
use Rattle.std.proofs.lemmas.Bool.{eq-eqb, ne_eqb, eqb-true, eqb-false}
use Rattle.std.proofs.lemmas.List.{append-nil, drop-take}
use Rattle.std.proofs.lemmas.Grind.{flat_map-append}
use Rattle.cas_types.specs.declared.schema.TableSchema.{TableSchema}
use Rattle.cas_disk.specs.declared.name.Name.{Name}
use Rattle.cas_disk.specs.declared.name.Name.TheVariants.{Manifest as manifest_name, Log as log_name, Table as table_name}
use Rattle.cas_disk.specs.Disk.{Image, Disk, During, Changed, MayBeAnything, MayGo, Same}
use Rattle.cas_disk.proofs.Moments.{reworded, leaves_either, one_call_more}
use Rattle.cas_atoms.specs.declared.atom.Mutation.{Mutation}
use Rattle.cas_mutations.specs.Allowed.{FitsRecord}
use Rattle.cas_changes.specs.declared.entry.Entry.{Entry}
use Rattle.cas_changes.specs.declared.entry.Entry.TheVariants.{DropSegment}
use Rattle.cas_changes.specs.Saying.{Saying, after, said_by, is_listed}
use Rattle.cas_changes.specs.Allowed.{FitsEntry}
use Rattle.cas_log.specs.Segment.{IsSegment, joined}
use Rattle.cas_log.specs.Logs.{place_of}
use Rattle.cas_log.specs.declared.log.Log.{Log}
use Rattle.cas_manifest.specs.File.{IsManifest}
use Rattle.cas_manifest.specs.Manifests.{place_of as manifest_place, Stands as ManifestStands, MayHave as MayHaveManifest}
use Rattle.cas_manifest.proofs.Appends.{said_more}
use Rattle.cas_replay.specs.declared.tops.Tops.{Tops}
use Rattle.cas_replay.specs.Tops.{top_at}
use Rattle.cas_replay.specs.Reading.{segment_in}
use Rattle.cas_replay.specs.Grammar.{AreSegments, AreInOrder, AscendByOne, IsLog, numbers_of}
use Rattle.cas_journal.specs.Stores.{IsStore, Found, Told, Holds, SameTables, without, may_be_without}
use Rattle.cas_journal.specs.Inner.Dropping.{IsLowest, HasFirst, HoldsWithout, LastsAfter}
use Rattle.cas_journal.specs.Inner.Noting.{IsFirstNoted}
use Rattle.cas_journal.specs.Notes.{Know, Noted, EachNoted}
use Rattle.cas_journal.specs.Journals.{Goes, Lasts, Writes, IsSpare, NoneAbove, all_parts}
use Rattle.cas_journal.specs.Ends.{Ends, WritesNothing}
use Rattle.cas_journal.specs.declared.fault.JournalFault.{JournalFault}
use Rattle.cas_journal.specs.declared.fault.JournalFault.TheVariants.{TooLarge, TooMany, Stopped, Failed, Mem}
use Rattle.cas_journal.specs.declared.journal.Journal.{Journal}
use Rattle.cas_journal.specs.declared.notes.Note.{Note}
use Rattle.cas_journal.proofs.Lists.{all_front, all_back, front_in_order, take_front}
use Rattle.cas_journal.proofs.Sayings.{Ascends, is_made, low_below}
use Rattle.cas_journal.proofs.Segments.{others_agree, none_is_manifest, log_agrees, segments_more, joined_more, other_log, manifest_is_no_log}
use Rattle.cas_journal.proofs.Holding.{log_file, listed_in_order, committed_front, committed_few, written_fit, holds_now, store_now, store_apart}
use Rattle.cas_journal.proofs.Moving.{earlier_still, spare_still, log_still, manifest_still, manifest_changed, still_so, lasting_stopped, lasting, holds_same}
use Rattle.cas_journal.proofs.Entries.{writes_still, store_rewritten}
use Rattle.cas_journal.proofs.Tables.{manifest_is_no_table, log_is_no_table}
use Rattle.cas_journal.proofs.Telling.{none_before, same_lasts}
use Rattle.cas_gates.specs.declared.first.First.{First}

-- ---- lists

drop_front : {X : Type 0} (xs ys : List X) → drop (length xs) (xs ++ ys) ≡ ys
drop_front [] ys = refl
drop_front (x ∷ xs) ys = drop_front xs ys

tail_of : {X : Type 0} → List X → List X
tail_of [] = []
tail_of (x ∷ xs) = xs

-- the mutations of the first part
abbrev pub first_part : List (List Mutation) → List Mutation
first_part [] = []
first_part (ms ∷ parts) = ms

abbrev pub later_parts : List (List Mutation) → List (List Mutation)
later_parts [] = []
later_parts (ms ∷ parts) = parts

parts_split : (parts : List (List Mutation)) → joined parts ≡ first_part parts ++ joined (later_parts parts)
parts_split [] = refl
parts_split (ms ∷ parts) = refl

back_ascends : (ns others : List ℕ) → AscendByOne (ns ++ others) → AscendByOne others
back_ascends [] others ascend = ascend
back_ascends (a ∷ []) [] ascend = tt
back_ascends (a ∷ []) (b ∷ others) ascend = ascend.1
back_ascends (a ∷ b ∷ ns) others ascend = back_ascends (b ∷ ns) others ascend.1

back_in_order : (ms others : List Mutation) → AreInOrder (ms ++ others) → AreInOrder others
back_in_order ms others ordered shard =
    back_ascends (numbers_of shard ms) (numbers_of shard others) (subst AscendByOne (flat_map-append _ ms others) (ordered shard))

-- ---- the segments that are listed

-- those above a number aren't it
above_kept : (n low : ℕ) (ns : List ℕ) (high : ℕ) → n < low → Ascends low ns high → filter (λ m. not (eqb m n)) ns ≡ ns
above_kept n low [] high above ascends = refl
above_kept n low (k ∷ ns) high above ascends =
    let other : eqb k n ≡ false = ne_eqb k n (λ e. absurd (omega (arith, e, above, ascends.0))) in
    subst (λ (b : Bool). cond (not b) (k ∷ filter (λ m. not (eqb m n)) ns) (filter (λ m. not (eqb m n)) ns) ≡ k ∷ ns) (sym other)
    (ap (λ (l : List ℕ). k ∷ l) (above_kept n (k + 1) ns high (omega (arith, above, ascends.0)) ascends.1))

lowest_gone : (n : ℕ) (ns : List ℕ) (high : ℕ) → Ascends 0 (n ∷ ns) high → filter (λ m. not (eqb m n)) (n ∷ ns) ≡ ns
lowest_gone n ns high ascends =
    let same : eqb n n ≡ true = eq-eqb n n refl in
    subst (λ (b : Bool). cond (not b) (n ∷ filter (λ m. not (eqb m n)) ns) (filter (λ m. not (eqb m n)) ns) ≡ ns) (sym same)
    (above_kept n (n + 1) ns high (omega arith) ascends.1)

lowest_listed : (n : ℕ) (ns : List ℕ) → is_listed (n ∷ ns) n ≡ true
lowest_listed n ns = let same : eqb n n ≡ true = eq-eqb n n refl in rw same refl

head_of : List ℕ → ℕ
head_of [] = 0
head_of (k ∷ ks) = k

-- those before the segment that is written begin with the lowest
before_begins : (o : Option Log) (number next : ℕ) (others before : List ℕ) (w p : List Mutation) (disk : Disk) → Writes o (number ∷ next ∷ others) before w p disk
    → (rest : List ℕ) × (before ≡ number ∷ rest)
unfolding head_of
before_begins None number next others before w p disk writes = (next ∷ others, sym writes.0)
before_begins (Some log) number next others [] w p disk writes = absurd cc
before_begins (Some log) number next others (b ∷ before) w p disk writes = (before, ap (λ (k : ℕ). k ∷ before) (sym (ap head_of writes.0)))

writes_less : (o : Option Log) (number : ℕ) (ns before : List ℕ) (w p : List Mutation) (disk : Disk) → Writes o (number ∷ ns) (number ∷ before) w p disk → Writes o ns before w p disk
unfolding tail_of
writes_less None number ns before w p disk writes = (ap tail_of writes.0, writes.1, writes.2)
writes_less (Some log) number ns before w p disk writes = (ap tail_of writes.0, writes.1, writes.2)

-- ---- the segments of an image

module _ (tables : List TableSchema) (shards : ℕ) (f : ℕ → List ℕ) where
  first_segment : (n : ℕ) (ns : List ℕ) (parts : List (List Mutation)) → AreSegments tables shards f (n ∷ ns) parts → IsSegment n (first_part parts) (f n)
  first_segment n ns [] are = absurd are
  first_segment n ns (ms ∷ parts) are = are.0.segment

  later_segments : (n : ℕ) (ns : List ℕ) (parts : List (List Mutation)) → AreSegments tables shards f (n ∷ ns) parts → AreSegments tables shards f ns (later_parts parts)
  later_segments n ns [] are = absurd are
  later_segments n ns (ms ∷ parts) are = are.1

-- the log of an image, by its earlier segments and the one that is written
log_from : (tables : List TableSchema) (shards : ℕ) (o : Option Log) (ns before : List ℕ) (parts : List (List Mutation)) (w p : List Mutation) (disk : Disk)
    → Writes o ns before w p disk → (c : Image) → disk.may_leave c → AreSegments tables shards (segment_in c) before parts
    → AllByRecursion (FitsRecord tables shards) w → AreInOrder (joined parts ++ w) → IsLog tables shards (segment_in c) ns (joined parts ++ w)
log_from tables shards None ns before parts w p disk writes c left are fit ordered =
    let none : joined parts ++ w ≡ joined parts = ap (λ (l : List Mutation). joined parts ++ l) writes.1 ∙ append-nil (joined parts) in
    subst (λ (l : List ℕ). IsLog tables shards (segment_in c) l (joined parts ++ w)) (sym writes.0)
    (record { parts = parts; segments = are; all = sym none; ordered = ordered })
log_from tables shards (Some log) ns before parts w p disk writes c left are fit ordered =
    subst (λ (l : List ℕ). IsLog tables shards (segment_in c) l (joined parts ++ w)) (sym writes.0) (record {
      parts = parts ++ w ∷ [];
      segments = segments_more tables shards (segment_in c) before parts log.number w are (record { segment = log_file log disk w writes.1 c left; fit = fit });
      all = joined_more parts w;
      ordered = ordered;
    })

-- what is noted of the segments behind the first of two or more
first_gone : (shards : ℕ) (found : Found) (o : Option Log) (parts : List (List Mutation)) (ms : List Mutation) (notes : List Note) (number next : ℕ) (others : List ℕ)
    → map (λ (n : Note). n.segment) notes ≡ number ∷ next ∷ others → EachNoted shards found notes (all_parts o parts ms)
    → (map (λ (n : Note). n.segment) (drop 1 notes) ≡ next ∷ others) × EachNoted shards found (drop 1 notes) (all_parts o (later_parts parts) ms)
unfolding tail_of
first_gone shards found o parts ms [] number next others is each = absurd cc
first_gone shards found o parts ms (x ∷ []) number next others is each = absurd (none_there (ap tail_of is))
  where
    none_there : [] ≡ next ∷ others → ⊥
    none_there e = cc
first_gone shards found None [] ms (x ∷ y ∷ notes) number next others is each = absurd each
first_gone shards found None (p ∷ parts) ms (x ∷ y ∷ notes) number next others is each = (ap tail_of is, each.1)
first_gone shards found (Some log) [] ms (x ∷ y ∷ notes) number next others is each = absurd each.1
first_gone shards found (Some log) (p ∷ parts) ms (x ∷ y ∷ notes) number next others is each = (ap tail_of is, each.1)

-- and of the first
first_noted : (shards : ℕ) (found : Found) (o : Option Log) (parts : List (List Mutation)) (ms : List Mutation) (notes : List Note) (number next : ℕ) (others : List ℕ)
    → map (λ (n : Note). n.segment) notes ≡ number ∷ next ∷ others → EachNoted shards found notes (all_parts o parts ms) → IsFirstNoted shards found notes (first_part parts)
unfolding tail_of
first_noted shards found o parts ms [] number next others is each = absurd cc
first_noted shards found o parts ms (x ∷ []) number next others is each = absurd (none_there (ap tail_of is))
  where
    none_there : [] ≡ next ∷ others → ⊥
    none_there e = cc
first_noted shards found None [] ms (x ∷ y ∷ notes) number next others is each = absurd each
first_noted shards found None (p ∷ parts) ms (x ∷ y ∷ notes) number next others is each = each.0
first_noted shards found (Some log) [] ms (x ∷ y ∷ notes) number next others is each = absurd each.1
first_noted shards found (Some log) (p ∷ parts) ms (x ∷ y ∷ notes) number next others is each = each.0

-- ---- the lowest segment

module _ (j : Journal) (old : Disk) (t : Told) (goes : Goes j old t) (number : ℕ) (lowest : IsLowest number (said_by t.entries).segments) where
  abbrev said : Saying
  said = said_by t.entries

  abbrev ns : List ℕ
  ns = lowest.0 ∷ lowest.1

  abbrev pub many : ℕ
  many = length (first_part goes.parts)

  abbrev e : Entry
  e = DropSegment number

  listed_writes : Writes j.log (number ∷ ns) goes.before goes.written goes.pushed old
  listed_writes = subst (λ (l : List ℕ). Writes j.log l goes.before goes.written goes.pushed old) lowest.2 goes.writes

  begins : (rest : List ℕ) × (goes.before ≡ number ∷ rest)
  begins = before_begins j.log number lowest.0 lowest.1 goes.before goes.written goes.pushed old listed_writes

  less_writes : Writes j.log ns begins.0 goes.written goes.pushed old
  less_writes =
      writes_less j.log number ns begins.0 goes.written goes.pushed old
      (subst (λ (l : List ℕ). Writes j.log (number ∷ ns) l goes.written goes.pushed old) begins.1 listed_writes)

  ascends : Ascends 0 (number ∷ ns) (said.last_segment + 1)
  ascends = subst (λ (l : List ℕ). Ascends 0 l (said.last_segment + 1)) lowest.2 (listed_in_order j old t goes)

  pub number_below : number < said.last_segment + 1
  number_below = omega (arith, low_below (number + 1) ns (said.last_segment + 1) ascends.1)

  -- what is listed after it
  next_segments : (after said e).segments ≡ ns
  next_segments = ap (λ (l : List ℕ). filter (λ m. not (eqb m number)) l) lowest.2 ∙ lowest_gone number ns (said.last_segment + 1) ascends

  pub drop_fits : number < 2 ^ 64 → FitsEntry said e
  drop_fits few = (is_made t.entries goes.made goes.manifest.follow, few, ap (λ (l : List ℕ). is_listed l number) lowest.2 ∙ lowest_listed number ns)

  -- the mutations
  all_split : first_part goes.parts ++ (joined (later_parts goes.parts) ++ (goes.written ++ goes.pushed)) ≡ t.taken
  all_split =
      sym (append_assoc (first_part goes.parts) (joined (later_parts goes.parts)) (goes.written ++ goes.pushed))
      ∙ ap (λ (l : List Mutation). l ++ (goes.written ++ goes.pushed)) (sym (parts_split goes.parts)) ∙ goes.all

  less_taken : joined (later_parts goes.parts) ++ (goes.written ++ goes.pushed) ≡ drop many t.taken
  less_taken = sym (drop_front (first_part goes.parts) _) ∙ ap (drop many) all_split

  less_committed : joined (later_parts goes.parts) ++ goes.written ≡ drop many (take t.committed t.taken)
  less_committed =
      sym (drop_front (first_part goes.parts) _)
      ∙ ap (drop many) (sym (append_assoc (first_part goes.parts) (joined (later_parts goes.parts)) goes.written)
      ∙ ap (λ (l : List Mutation). l ++ goes.written) (sym (parts_split goes.parts)) ∙ sym (committed_front j old t goes))

  lengths : t.committed ≡ many + length (joined (later_parts goes.parts) ++ goes.written)
  lengths =
      sym goes.committed ∙ length-append (joined goes.parts) goes.written ∙ omega (arith, ap length (parts_split goes.parts), length-append (first_part goes.parts) (joined (later_parts goes.parts)), length-append (joined (later_parts goes.parts)) goes.written)

  first_front : take many t.taken ≡ first_part goes.parts
  first_front = take_front (first_part goes.parts) _ t.taken all_split

  earlier_less : (c : Image) → old.may_leave c → AreSegments said.tables said.shards (segment_in c) (number ∷ begins.0) goes.parts
  earlier_less c left = subst (λ (l : List ℕ). AreSegments said.tables said.shards (segment_in c) l goes.parts) begins.1 (goes.earlier c left)

  pub has_first : HasFirst j.notes number many t old
  has_first = record {
    committed = omega (arith, lengths);
    file = λ c left. subst (λ (ms : List Mutation). IsSegment number ms (segment_in c number)) (sym first_front)
        (first_segment said.tables said.shards (segment_in c) number begins.0 goes.parts (earlier_less c left));
    noted = subst (λ (ms : List Mutation). IsFirstNoted j.notes.shards t.found j.notes.list.items ms) (sym first_front)
        (first_noted j.notes.shards t.found j.log goes.parts (goes.written ++ goes.pushed) j.notes.list.items number lowest.0 lowest.1 (goes.noted.1.numbers ∙ lowest.2) goes.noted.1.noted);
  }

  ordered_less : AreInOrder (joined (later_parts goes.parts) ++ (goes.written ++ goes.pushed))
  ordered_less = back_in_order (first_part goes.parts) _ (subst AreInOrder (sym all_split) goes.ordered)

  log_less : (c : Image) → old.may_leave c → IsLog said.tables said.shards (segment_in c) ns (joined (later_parts goes.parts) ++ goes.written)
  log_less c left =
      log_from said.tables said.shards j.log ns begins.0 (later_parts goes.parts) goes.written goes.pushed old less_writes c left
      (later_segments said.tables said.shards (segment_in c) number begins.0 goes.parts (earlier_less c left))
      (all_front (FitsRecord said.tables said.shards) goes.written goes.pushed (written_fit j old t goes))
      (front_in_order (joined (later_parts goes.parts) ++ goes.written) goes.pushed
      (subst AreInOrder (sym (append_assoc (joined (later_parts goes.parts)) goes.written goes.pushed)) ordered_less))

  abbrev next : Saying
  next = after said e

  is_next : next ≡ said_by (t.entries ++ e ∷ [])
  is_next = sym (said_more t.entries e)

  some : (entries : List Entry) → entries ++ e ∷ [] ≢ []
  some [] is = cc
  some (x ∷ xs) is = cc

  -- an image whose manifest has the entry
  store_dropped : (d c : Image) → old.may_leave d → ((k : Name) → k ≢ manifest_name → c k ≡ d k) → (f : List ℕ) → c manifest_name ≡ Some f
      → IsManifest (t.entries ++ e ∷ []) f → IsStore (t.entries ++ e ∷ []) (drop many (take t.committed t.taken)) c
  store_dropped d c was same f there manifest =
      let ms = drop many (take t.committed t.taken) in
      let all = said_by (t.entries ++ e ∷ []) in
      let log : IsLog next.tables next.shards (segment_in d) next.segments ms =
      subst (λ (l : List ℕ). IsLog said.tables said.shards (segment_in d) l ms) (sym next_segments)
      (subst (λ (l : List Mutation). IsLog said.tables said.shards (segment_in d) ns l) less_committed (log_less d was)) in
      let whole : IsLog all.tables all.shards (segment_in d) all.segments ms =
      subst (λ (s : Saying). IsLog s.tables s.shards (segment_in d) s.segments ms) is_next log in
      record {
        file = f;
        there = there;
        manifest = manifest;
        made = some t.entries;
        log = log_agrees all.tables all.shards (segment_in d) (segment_in c) all.segments ms (others_agree c d manifest_name all.segments same (none_is_manifest all.segments)) whole;
      }

  abbrev pub Either : Image → Type 0
  Either c = Holds t c ⊎ Holds (may_be_without number many t) c

  holds_without : (c : Image) → IsStore (t.entries ++ e ∷ []) (drop many (take t.committed t.taken)) c → Holds (may_be_without number many t) c
  holds_without c store = record {
    entries = t.entries ++ e ∷ [];
    listed = inr refl;
    gone = many;
    front = inr (refl, refl);
    count = t.committed;
    least = omega arith;
    most = committed_few j old t goes;
    store = store;
  }

  -- at each moment of the append
  pub drop_leaves : (new : Disk) → During (Changed manifest_name (λ _ f. MayHaveManifest t.entries e f)) old new → During (λ _ c. Either c) old new
  drop_leaves new call =
      reworded (Changed manifest_name (λ _ f. MayHaveManifest t.entries e f)) (λ _ c. Either c) old new call (λ d c was made. by_manifest d c was made made.here.2)
    where
      by_manifest : (d c : Image) → old.may_leave d → (made : Changed manifest_name (λ _ f. MayHaveManifest t.entries e f) d c)
          → IsManifest t.entries made.here.0 ⊎ IsManifest (t.entries ++ e ∷ []) made.here.0 → Either c
      by_manifest d c was made (inl is) = inl (record {
        entries = t.entries;
        listed = inl refl;
        gone = 0;
        front = inl refl;
        count = t.committed;
        least = omega arith;
        most = committed_few j old t goes;
        store = store_rewritten t.entries (take t.committed t.taken) d c (store_now j old t goes d was) made.others made.here.0 made.here.1 is;
      })
      by_manifest d c was made (inr is) = inr (holds_without c (store_dropped d c was made.others made.here.0 made.here.1 is))

  -- what holds all may be without the segment
  holds_may_be : (c : Image) → Holds t c → Holds (may_be_without number many t) c
  holds_may_be c holds = record {
    entries = holds.entries;
    listed = inl (⊎_elim (λ is. is) (λ is. is ∙ ap (λ (l : List Entry). t.entries ++ l) goes.none_failed ∙ append-nil t.entries) holds.listed);
    gone = holds.gone;
    front = inl (⊎_elim (λ is. is) (λ (is : _ × (holds.gone ≡ t.leaving)). is.1 ∙ goes.none_leaving) holds.front);
    count = holds.count;
    least = holds.least;
    most = holds.most;
    store = holds.store;
  }

  -- after an append that failed
  pub drop_fails : (new : Disk) → During (λ _ c. Either c) old new → (c : Image) → new.may_leave c → Holds (may_be_without number many t) c
  drop_fails new leaves c left =
      ⊎_elim (λ holds. holds_may_be c holds) (λ holds. holds)
      (still_so (λ _ x. Either x) old new leaves Either (λ d x was made. made) (λ x was. inl (holds_now j old t goes x was)) c left)

  -- the words of the contract
  pub in_words : (new : Disk) → During (λ _ c. Either c) old new → During (λ _ c. HoldsWithout j.notes number t old c) old new
  in_words new leaves =
      reworded (λ _ c. Either c) (λ _ c. HoldsWithout j.notes number t old c) old new leaves
      (λ d c was either. ⊎_elim (λ holds. inl holds) (λ holds. inr (many, has_first, holds)) either)

  -- after one that is there
  module _ (k : Journal) (new : Disk) (call : During (Changed manifest_name MayBeAnything) old new)
      (stands : ManifestStands (manifest_place k.manifest) new (t.entries ++ e ∷ [])) (log : k.log ≡ j.log) (spare : k.spare ≡ j.spare) (last : k.last_segment ≡ j.last_segment)
      (shards : k.notes.shards ≡ j.notes.shards) (notes : k.notes.list.items ≡ drop 1 j.notes.list.items) (nothing : k.notes.next ≡ j.notes.next) where
    abbrev step : Image → Image → Type 0
    step = Changed manifest_name MayBeAnything

    -- what is noted of the others
    less_known : Know k.notes t.found (after said e).segments (all_parts k.log (later_parts goes.parts) (goes.written ++ goes.pushed))
    less_known =
        let rest = first_gone j.notes.shards t.found j.log goes.parts (goes.written ++ goes.pushed) j.notes.list.items number lowest.0 lowest.1 (goes.noted.1.numbers ∙ lowest.2) goes.noted.1.noted in
        record {
          numbers = ap (map (λ (n : Note). n.segment)) notes ∙ rest.0 ∙ sym next_segments;
          noted = subst (λ (n : ℕ). EachNoted n t.found k.notes.list.items (all_parts k.log (later_parts goes.parts) (goes.written ++ goes.pushed))) (sym shards)
              (subst (λ (l : List Note). EachNoted j.notes.shards t.found l (all_parts k.log (later_parts goes.parts) (goes.written ++ goes.pushed))) (sym notes)
              (subst (λ (o : Option Log). EachNoted j.notes.shards t.found (drop 1 j.notes.list.items) (all_parts o (later_parts goes.parts) (goes.written ++ goes.pushed))) (sym log) rest.1));
          next = subst (λ (x : Tops). (place : ℕ) → top_at x place ≡ 0) (sym nothing) goes.noted.1.next;
        }

    pub drop_goes : Goes k new (without number many t)
    drop_goes = record {
      manifest = stands;
      none_failed = goes.none_failed;
      none_leaving = goes.none_leaving;
      made = some t.entries;
      before = begins.0;
      parts = later_parts goes.parts;
      earlier = subst (λ (s : Saying). (c : Image) → new.may_leave c → AreSegments s.tables s.shards (segment_in c) begins.0 (later_parts goes.parts)) is_next
          (earlier_still step old new call said.tables said.shards begins.0 (later_parts goes.parts)
          (λ d c made. others_agree c d manifest_name begins.0 made.others (none_is_manifest begins.0))
          (λ c left. later_segments said.tables said.shards (segment_in c) number begins.0 goes.parts (earlier_less c left)));
      written = goes.written;
      pushed = goes.pushed;
      writes = subst (λ (s : Saying). Writes k.log s.segments begins.0 goes.written goes.pushed new) is_next
          (subst (λ (l : List ℕ). Writes k.log l begins.0 goes.written goes.pushed new) (sym next_segments)
          (subst (λ (o : Option Log). Writes o ns begins.0 goes.written goes.pushed new) (sym log)
          (writes_still step old new call (λ d c made n. manifest_changed MayBeAnything d c made n) j.log ns begins.0 goes.written goes.pushed less_writes)));
      all = less_taken;
      committed = omega (arith, lengths);
      fit = subst (λ (s : Saying). AllByRecursion (FitsRecord s.tables s.shards) (drop many t.taken)) is_next
          (subst (λ (l : List Mutation). AllByRecursion (FitsRecord said.tables said.shards) l) less_taken
          (all_back (FitsRecord said.tables said.shards) (first_part goes.parts) _
          (subst (λ (l : List Mutation). AllByRecursion (FitsRecord said.tables said.shards) l) (sym all_split) goes.fit)));
      ordered = subst AreInOrder less_taken ordered_less;
      last = subst (λ (s : Saying). s.last_segment ≤ k.last_segment) is_next (omega (arith, goes.last, last));
      spare = subst (λ (s : Saying). IsSpare k.spare s.last_segment new) is_next
          (subst (λ (o : Option Log). IsSpare o said.last_segment new) (sym spare)
          (spare_still step old new call j.spare said.last_segment (λ d c made n above. manifest_changed MayBeAnything d c made n) goes.spare));
      noted = subst (λ (s : Saying). Noted k.notes t.found s (all_parts k.log (later_parts goes.parts) (goes.written ++ goes.pushed))) is_next (shards ∙ goes.noted.0, less_known);
    }

  -- the segments that are listed then are above it
  pub left_above : AllByRecursion (λ n. number < n) (said_by (t.entries ++ e ∷ [])).segments
  left_above =
      subst (λ (s : Saying). AllByRecursion (λ n. number < n) s.segments) is_next
      (subst (λ (l : List ℕ). AllByRecursion (λ n. number < n) l) (sym next_segments) (all_above number (number + 1) ns (said.last_segment + 1) (omega arith) ascends.1))
    where
      all_above : (n low : ℕ) (ks : List ℕ) (high : ℕ) → n < low → Ascends low ks high → AllByRecursion (λ k. n < k) ks
      all_above n low [] high above ascend = tt
      all_above n low (k ∷ ks) high above ascend = (omega (arith, above, ascend.0), all_above n (k + 1) ks high (omega (arith, above, ascend.0)) ascend.1)

  pub left_known : number ≤ (said_by (t.entries ++ e ∷ [])).last_segment
  left_known = subst (λ (s : Saying). number ≤ s.last_segment) is_next (omega (arith, number_below))

  -- an image with the store that is left
  pub holds_left : (c : Image) → IsStore (t.entries ++ e ∷ []) (take (t.committed - many) (drop many t.taken)) c → Holds (may_be_without number many t) c
  holds_left c store =
      let sum : t.committed ≡ many + (t.committed - many) = omega (arith, lengths) in
      holds_without c (subst (λ (ms : List Mutation). IsStore (t.entries ++ e ∷ []) ms c) (sym (ap (λ (n : ℕ). drop many (take n t.taken)) sum ∙ drop-take many (t.committed - many) t.taken)) store)

-- ---- a file that is removed, of a segment that isn't listed

module _ (k : Journal) (old : Disk) (u : Told) (goes : Goes k old u) (number : ℕ) (above : AllByRecursion (λ n. number < n) (said_by u.entries).segments)
    (known : number ≤ (said_by u.entries).last_segment) (new : Disk) (call : During (Changed (log_name number) MayGo) old new) where
  abbrev goes_away : Image → Image → Type 0
  goes_away = Changed (log_name number) MayGo

  none_is : (ns : List ℕ) → AllByRecursion (λ n. number < n) ns → AllByRecursion (λ n. log_name n ≢ log_name number) ns
  none_is [] all = tt
  none_is (n ∷ ns) all = (other_log n number (λ e. absurd (omega (arith, e, all.0))), none_is ns all.1)

  before_above : (o : Option Log) → Writes o (said_by u.entries).segments goes.before goes.written goes.pushed old → AllByRecursion (λ n. number < n) goes.before
  before_above None writes = subst (λ (ns : List ℕ). AllByRecursion (λ n. number < n) ns) writes.0 above
  before_above (Some log) writes =
      all_front (λ n. number < n) goes.before (log.number ∷ []) (subst (λ (ns : List ℕ). AllByRecursion (λ n. number < n) ns) writes.0 above)

  written_stays : (o : Option Log) → Writes o (said_by u.entries).segments goes.before goes.written goes.pushed old
      → Writes o (said_by u.entries).segments goes.before goes.written goes.pushed new
  written_stays None writes = writes
  written_stays (Some log) writes =
      let high : number < log.number =
      (all_back (λ n. number < n) goes.before (log.number ∷ []) (subst (λ (ns : List ℕ). AllByRecursion (λ n. number < n) ns) writes.0 above)).0 in (
        writes.0,
        log_still goes_away old new call (place_of log) goes.written
            (λ d c made. made.others (log_name log.number) (other_log log.number number (λ e. absurd (omega (arith, e, high))))) writes.1,
        writes.2,
      )

  pub removed_goes : Goes k new u
  removed_goes =
      let said = said_by u.entries in
      record {
        manifest = manifest_still goes_away old new call (manifest_place k.manifest) u.entries (λ d c made. made.others manifest_name (manifest_is_no_log number)) goes.manifest;
        none_failed = goes.none_failed;
        none_leaving = goes.none_leaving;
        made = goes.made;
        before = goes.before;
        parts = goes.parts;
        earlier = earlier_still goes_away old new call said.tables said.shards goes.before goes.parts
            (λ d c made. others_agree c d (log_name number) goes.before made.others (none_is goes.before (before_above k.log goes.writes))) goes.earlier;
        written = goes.written;
        pushed = goes.pushed;
        writes = written_stays k.log goes.writes;
        all = goes.all;
        committed = goes.committed;
        fit = goes.fit;
        ordered = goes.ordered;
        last = goes.last;
        spare = spare_still goes_away old new call k.spare said.last_segment
            (λ d c made n high. made.others (log_name n) (other_log n number (λ e. absurd (omega (arith, e, high, known))))) goes.spare;
        noted = goes.noted;
      }

  pub removed_leaves : During (λ _ c. IsStore u.entries (take u.committed u.taken) c) old new
  removed_leaves =
      reworded goes_away (λ _ c. IsStore u.entries (take u.committed u.taken) c) old new call
      (λ d c was made. store_apart u.entries (take u.committed u.taken) d c (log_name number) (store_now k old u goes d was) (manifest_is_no_log number)
      (none_is (said_by u.entries).segments above) made.others)

-- no segment is above those that were begun
pub removed_free : (last number : ℕ) (old new : Disk) → During (Changed (log_name number) MayGo) old new → NoneAbove last old → NoneAbove last new
removed_free last number old new call none =
    still_so (Changed (log_name number) MayGo) old new call (λ c. (n : ℕ) → last < n → c (log_name n) ≡ None)
    (λ d c was made n high. by_name d c made n (eqb n number) refl (was n high)) none
  where
    by_name : (d c : Image) → Changed (log_name number) MayGo d c → (n : ℕ) (is : Bool) → eqb n number ≡ is → d (log_name n) ≡ None → c (log_name n) ≡ None
    by_name d c made n true same was =
        subst (λ (k : ℕ). d (log_name k) ≡ None → c (log_name k) ≡ None) (sym (eqb-true n number same)) (λ none. ⊎_elim (λ stays. stays ∙ none) (λ gone. gone) made.here) was
    by_name d c made n false other was = made.others (log_name n) (other_log n number (eqb-false n number other)) ∙ was

-- ---- the call

module _ (j k : Journal) (old mid : Disk) (t : Told) (number : ℕ) (lasts : Lasts j old t) (lowest : IsLowest number (said_by t.entries).segments) (few : number < 2 ^ 64)
    (before now : ℕ) (during : (entries : List Entry) → ManifestStands (manifest_place j.manifest) old entries → FitsEntry (said_by entries) (DropSegment number)
    → During (Changed manifest_name (λ _ f. MayHaveManifest entries (DropSegment number) f)) old mid) where
  leaves_going : (none : j.first ≡ None) → During (λ _ c. Either j old t (lasts.goes none) number lowest c) old mid
  leaves_going none =
      let goes = lasts.goes none in
      drop_leaves j old t goes number lowest mid (during t.entries goes.manifest (drop_fits j old t goes number lowest few))

  -- at each moment of the append
  pub append_words : (first : Option First) → j.first ≡ first → (r : Result (Unit {0}) JournalFault) → Ends first k.first before now r
      → IfErr r (λ f. WritesNothing f → During Same old mid) → During (λ _ c. HoldsWithout j.notes number t old c) old mid
  append_words None none r ends untouched = in_words j old t (lasts.goes none) number lowest mid (leaves_going none)
  append_words (Some x) kept r ends untouched =
      let still : During Same old mid = subst (λ (q : Result (Unit {0}) JournalFault). IfErr q (λ f. WritesNothing f → During Same old mid)) ends.0 untouched tt in
      reworded Same (λ _ c. HoldsWithout j.notes number t old c) old mid still (λ d c was same. inl (holds_same t d c (lasts.holds d was) same))

  failed_lasts : (first : Option First) → j.first ≡ first → Ends {T = Unit {0}} first k.first before now (Err Failed) → LastsAfter Failed k mid j.notes number t old
  failed_lasts None none failed =
      let goes = lasts.goes none in (
        many j old t goes number lowest,
        has_first j old t goes number lowest,
        lasting_stopped k mid _ (drop_fails j old t goes number lowest mid (leaves_going none)) (λ unkept. absurd (kept_some (record { number = now }) failed.1 unkept)),
      )
    where
      kept_some : (f : First) → k.first ≡ Some f → k.first ≡ None → ⊥
      kept_some f some none = cc
  failed_lasts (Some x) kept failed = cc

  -- after a fault
  pub drop_fault : (f : JournalFault) → Ends {T = Unit {0}} j.first k.first before now (Err f) → (WritesNothing f → During Same old mid)
      → manifest_place k.manifest ≡ manifest_place j.manifest → k.log ≡ j.log → k.spare ≡ j.spare → k.last_segment ≡ j.last_segment → k.notes ≡ j.notes → LastsAfter f k mid j.notes number t old
  drop_fault Failed ends untouched stays log spare last notes = failed_lasts j.first refl ends
  drop_fault Mem ends untouched stays log spare last notes =
      same_lasts j k old mid t (untouched tt) stays log spare (omega (arith, last)) notes (none_before j.first k.first before now (Err Mem) ends) lasts
  drop_fault (TooMany what most) ends untouched stays log spare last notes =
      same_lasts j k old mid t (untouched tt) stays log spare (omega (arith, last)) notes (none_before j.first k.first before now (Err (TooMany what most)) ends) lasts
  drop_fault (TooLarge long most) ends untouched stays log spare last notes =
      same_lasts j k old mid t (untouched tt) stays log spare (omega (arith, last)) notes (none_before j.first k.first before now (Err (TooLarge long most)) ends) lasts
  drop_fault (Stopped x) ends untouched stays log spare last notes =
      same_lasts j k old mid t (untouched tt) stays log spare (omega (arith, last)) notes (none_before j.first k.first before now (Err (Stopped x)) ends) lasts

  -- after the append, and the removal of the file
  module _ (none : j.first ≡ None) (new : Disk) (others : During (Changed manifest_name MayBeAnything) old mid)
      (stands : (entries : List Entry) → ManifestStands (manifest_place j.manifest) old entries → FitsEntry (said_by entries) (DropSegment number)
      → ManifestStands (manifest_place k.manifest) mid (entries ++ DropSegment number ∷ []))
      (log : k.log ≡ j.log) (spare : k.spare ≡ j.spare) (last : k.last_segment ≡ j.last_segment)
      (shards : k.notes.shards ≡ j.notes.shards) (notes : k.notes.list.items ≡ drop 1 j.notes.list.items) (nothing : k.notes.next ≡ j.notes.next)
      (removal : During (Changed (log_name number) MayGo) mid new) where
    abbrev going : Goes j old t
    going = lasts.goes none

    mid_goes : Goes k mid (without number (many j old t going number lowest) t)
    mid_goes =
        drop_goes j old t going number lowest k mid others (stands t.entries going.manifest (drop_fits j old t going number lowest few)) log spare last shards notes nothing

    pub drop_lasts : (n : ℕ) × HasFirst j.notes number n t old × Lasts k new (without number n t)
    drop_lasts = (
      many j old t going number lowest,
      has_first j old t going number lowest,
      lasting k new _ (removed_goes k mid _ mid_goes number (left_above j old t going number lowest) (left_known j old t going number lowest) new removal),
    )

    -- at each moment of both
    pub both_leave : During (λ _ c. HoldsWithout j.notes number t old c) old new
    both_leave =
        leaves_either (Either j old t going number lowest) (λ c. IsStore (t.entries ++ DropSegment number ∷ []) (take (t.committed - many j old t going number lowest) (drop (many j old t going number lowest) t.taken)) c)
        (λ c. HoldsWithout j.notes number t old c) old mid new (leaves_going none)
        (removed_leaves k mid _ mid_goes number (left_above j old t going number lowest) (left_known j old t going number lowest) new removal)
        (λ c either. ⊎_elim (λ holds. inl holds) (λ holds. inr (many j old t going number lowest, has_first j old t going number lowest, holds)) either)
        (λ c store. inr (many j old t going number lowest, has_first j old t going number lowest, holds_left j old t going number lowest c store))

-- the files of tables stay
pub drop_tables : (number : ℕ) (old mid new : Disk) → During (Changed manifest_name MayBeAnything) old mid → During (Changed (log_name number) MayGo) mid new → During SameTables old new
drop_tables number old mid new first second =
    one_call_more SameTables (Changed (log_name number) MayGo) old mid new
    (reworded (Changed manifest_name MayBeAnything) SameTables old mid first (λ d c was made n. made.others (table_name n) (λ e. manifest_is_no_table n (sym e))))
    second (λ d c was mid made n. made.others (table_name n) (λ e. log_is_no_table number n (sym e)))
    (λ x d c was so_far mid made n. made.others (table_name n) (λ e. log_is_no_table number n (sym e)) ∙ so_far n)
