-- What a call leaves of a journal, by the files that it doesn't change.
use Rattle.std.proofs.Common.{◌≡◌, ◌≢◌, ◌⊎◌, inl, inr, ⊎_elim, ℕ, ◌+◌, ◌<◌, ◌≤◌, List, [], ◌∷◌, ◌++◌, length, take, drop, Option, None, Some, refl, sym, ap, subst, ◌∙◌, arith, append_assoc, length-append}
use Rattle.std.specs.List.{AllByRecursion}
use Rattle.std.specs.Prelude.{Err}
use Rattle.std.proofs.lemmas.List.{append-nil, take_all, take-append-le}
use Rattle.cas_types.specs.declared.schema.TableSchema.{TableSchema}
use Rattle.cas_disk.specs.declared.name.Name.{Name}
use Rattle.cas_disk.specs.declared.name.Name.TheVariants.{Manifest as manifest_name, Log as log_name}
use Rattle.cas_disk.specs.Disk.{Image, Disk, During, Changed, MayBeAnything, Same, IsKept, bytes_of}
use Rattle.cas_disk.proofs.Moments.{left_after, reworded}
use Rattle.cas_gates.specs.declared.first.First.{First}
use Rattle.cas_atoms.specs.declared.atom.Mutation.{Mutation}
use Rattle.cas_mutations.specs.Allowed.{FitsRecord}
use Rattle.cas_changes.specs.declared.entry.Entry.{Entry}
use Rattle.cas_changes.specs.Saying.{Saying, said_by}
use Rattle.cas_log.specs.Segment.{IsSegment, joined}
use Rattle.cas_log.specs.Logs.{Place, place_of, HasPushed, Stands as LogStands, MayHave as MayHaveLog, Ends as LogEnds}
use Rattle.cas_log.specs.declared.log.Log.{Log}
use Rattle.cas_log.specs.declared.fault.LogFault.{LogFault}
use Rattle.cas_log.specs.declared.fault.LogFault.TheVariants as log_fault
use Rattle.cas_manifest.specs.Manifests.{Place as ManifestPlace, place_of as manifest_place, Stands as ManifestStands}
use Rattle.cas_replay.specs.Reading.{segment_in}
use Rattle.cas_replay.specs.Grammar.{AreSegments, AreInOrder, IsLog}
use Rattle.cas_journal.specs.Stores.{IsStore, Told, Holds, committed_all, took}
use Rattle.cas_journal.specs.Notes.{Noted}
use Rattle.cas_journal.specs.Inner.Noting.{StayNoted}
use Rattle.cas_journal.specs.Journals.{Goes, Lasts, Writes, IsSpare, NoneAbove, MayTake, all_parts}
use Rattle.cas_journal.specs.declared.journal.Journal.{Journal}
use Rattle.cas_journal.proofs.Lists.{all_front, all_back, all_more, front_in_order}
use Rattle.cas_journal.proofs.Sayings.{Ascends, all_below, before_last}
use Rattle.cas_journal.proofs.Segments.{segments_agree, log_is_no_manifest, manifest_is_no_log, other_log, others_agree, below_differ}
use Rattle.cas_journal.proofs.Holding.{manifest_file, store_same, listed_in_order, all_fit, committed_front, committed_few, holds_now, log_of_parts}

-- ---- files that a call leaves

module _ (step : Image → Image → Type 0) (old new : Disk) (call : During step old new) where
  pub still_so : (P : Image → Type 0) → ((d c : Image) → P d → step d c → P c) → ((c : Image) → old.may_leave c → P c) → (c : Image) → new.may_leave c → P c
  still_so P says before c left = ⊎_elim (λ was. before c was) (λ made. says made.0 c (before made.0 made.1) made.2) (left_after step old new call c left)

  pub still_kept : (n : Name) (f : List ℕ) → ((d c : Image) → step d c → c n ≡ d n) → IsKept n f old → IsKept n f new
  still_kept n f same kept = still_so (λ c. c n ≡ Some f) (λ d c was made. same d c made ∙ was) kept

  pub still_free : (last : ℕ) → ((d c : Image) → step d c → (n : ℕ) → last < n → c (log_name n) ≡ d (log_name n)) → NoneAbove last old → NoneAbove last new
  still_free last same none =
      still_so (λ c. (n : ℕ) → last < n → c (log_name n) ≡ None) (λ d c was made n above. same d c made n above ∙ was n above) none

  pub manifest_still : (p : ManifestPlace) (entries : List Entry) → ((d c : Image) → step d c → c manifest_name ≡ d manifest_name)
      → ManifestStands p old entries → ManifestStands p new entries
  manifest_still p entries same stands = record {
    gate = stands.gate;
    rest = stands.rest;
    closed = stands.closed;
    kept = still_kept manifest_name _ same stands.kept;
    end = stands.end;
    listed = stands.listed;
    follow = stands.follow;
  }

  pub log_still : (p : Place) (ms : List Mutation) → ((d c : Image) → step d c → c (log_name p.number) ≡ d (log_name p.number)) → LogStands p old ms → LogStands p new ms
  log_still p ms same stands = record { blocks = stands.blocks; all = stands.all; kept = still_kept (log_name p.number) _ same stands.kept; end = stands.end }

  pub earlier_still : (tables : List TableSchema) (shards : ℕ) (ns : List ℕ) (parts : List (List Mutation))
      → ((d c : Image) → step d c → AllByRecursion (λ k. segment_in c k ≡ segment_in d k) ns)
      → ((c : Image) → old.may_leave c → AreSegments tables shards (segment_in c) ns parts) → (c : Image) → new.may_leave c → AreSegments tables shards (segment_in c) ns parts
  earlier_still tables shards ns parts same before =
      still_so (λ c. AreSegments tables shards (segment_in c) ns parts)
      (λ d c was made. segments_agree tables shards (segment_in d) (segment_in c) ns parts (same d c made) was) before

  pub spare_still : (o : Option Log) (last : ℕ) → ((d c : Image) → step d c → (n : ℕ) → last < n → c (log_name n) ≡ d (log_name n)) → IsSpare o last old → IsSpare o last new
  spare_still None last same spare = tt
  spare_still (Some log) last same spare =
      (spare.0, log_still (place_of log) [] (λ d c made. same d c made log.number spare.0) spare.1, spare.2)

-- at a file's own change the others stay
pub log_changed : (n : ℕ) (change : Option (List ℕ) → Option (List ℕ) → Type 0) (d c : Image) → Changed (log_name n) change d c → (k : ℕ) → n < k → c (log_name k) ≡ d (log_name k)
log_changed n change d c made k above = made.others (log_name k) (other_log k n (λ e. absurd (omega (arith, e, above))))

pub manifest_changed : (change : Option (List ℕ) → Option (List ℕ) → Type 0) (d c : Image) → Changed manifest_name change d c → (k : ℕ) → c (log_name k) ≡ d (log_name k)
manifest_changed change d c made k = made.others (log_name k) (log_is_no_manifest k)

-- the same files hold the same
pub holds_same : (t : Told) (d c : Image) → Holds t d → Same d c → Holds t c
holds_same t d c holds same = record {
  entries = holds.entries;
  listed = holds.listed;
  gone = holds.gone;
  front = holds.front;
  count = holds.count;
  least = holds.least;
  most = holds.most;
  store = store_same holds.entries (drop holds.gone (take holds.count t.taken)) d c holds.store same;
}

-- a journal that goes on lasts
pub lasting : (j : Journal) (disk : Disk) (t : Told) → Goes j disk t → Lasts j disk t
lasting j disk t goes = record { holds = holds_now j disk t goes; goes = λ none. goes }

-- a fault that is kept
pub lasting_stopped : (j : Journal) (disk : Disk) (t : Told) → ((c : Image) → disk.may_leave c → Holds t c) → (j.first ≡ None → ⊥) → Lasts j disk t
lasting_stopped j disk t holds kept = record { holds = holds; goes = λ none. absurd (kept none) }

-- the mutations of the segments, where one is written
pub written_parts : (o : Option Log) (log : Log) (parts : List (List Mutation)) (ms : List Mutation) → o ≡ Some log → all_parts o parts ms ≡ parts ++ ms ∷ []
written_parts o log parts ms is = ap (λ (x : Option Log). all_parts x parts ms) is

-- where the journal goes on at the same place, with segments that have what they had, what it was told lasts
pub resting : (j k : Journal) (disk : Disk) (t : Told) → k.manifest ≡ j.manifest
    → ((listed before : List ℕ) (written pushed : List Mutation) → Writes j.log listed before written pushed disk → Writes k.log listed before written pushed disk)
    → ((parts : List (List Mutation)) (ms : List Mutation) → all_parts k.log parts ms ≡ all_parts j.log parts ms)
    → ((last : ℕ) → IsSpare j.spare last disk → IsSpare k.spare last disk) → k.last_segment ≡ j.last_segment → k.first ≡ j.first
    → StayNoted j.notes k.notes → Lasts j disk t → Lasts k disk t
resting j k disk t manifest writes parts spare last first notes lasts = record {
  holds = lasts.holds;
  goes = λ none.
      let goes = lasts.goes (sym first ∙ none) in
      let said = said_by t.entries in
      record {
        manifest = subst (λ m. ManifestStands (manifest_place m) disk t.entries) (sym manifest) goes.manifest;
        none_failed = goes.none_failed;
        none_leaving = goes.none_leaving;
        made = goes.made;
        before = goes.before;
        parts = goes.parts;
        earlier = goes.earlier;
        written = goes.written;
        pushed = goes.pushed;
        writes = writes said.segments goes.before goes.written goes.pushed goes.writes;
        all = goes.all;
        committed = goes.committed;
        fit = goes.fit;
        ordered = goes.ordered;
        last = subst (λ (n : ℕ). said.last_segment ≤ n) (sym last) goes.last;
        spare = spare said.last_segment goes.spare;
        noted = notes t.found said _ (subst (λ (l : List (List Mutation)). Noted j.notes t.found said l) (sym (parts goes.parts (goes.written ++ goes.pushed))) goes.noted);
      };
}

-- memory was made in the segment that is written
pub writes_reserved : (o : Option Log) (log next : Log) → o ≡ Some log → place_of next ≡ place_of log → ((pushed : List Mutation) → HasPushed log pushed → HasPushed next pushed)
    → (disk : Disk) (listed before : List ℕ) (written pushed : List Mutation) → Writes o listed before written pushed disk → Writes (Some next) listed before written pushed disk
writes_reserved o log next is place more disk listed before written pushed writes =
    let was : Writes (Some log) listed before written pushed disk = subst (λ (x : Option Log). Writes x listed before written pushed disk) is writes in (
      was.0 ∙ ap (λ (p : Place). before ++ p.number ∷ []) (sym place),
      subst (λ (p : Place). LogStands p disk written) (sym place) was.1,
      more pushed was.2,
    )

-- and in the one that waits
pub spare_reserved : (o : Option Log) (log next : Log) → o ≡ Some log → place_of next ≡ place_of log → ((pushed : List Mutation) → HasPushed log pushed → HasPushed next pushed)
    → (disk : Disk) (last : ℕ) → IsSpare o last disk → IsSpare (Some next) last disk
spare_reserved o log next is place more disk last spare =
    let was : IsSpare (Some log) last disk = subst (λ (x : Option Log). IsSpare x last disk) is spare in (
      subst (λ (p : Place). last < p.number) (sym place) was.0,
      subst (λ (p : Place). LogStands p disk []) (sym place) was.1,
      more [] was.2,
    )

-- ---- a commit

module _ (j : Journal) (log : Log) (old : Disk) (t : Told) (goes : Goes j old t) (is : j.log ≡ Some log) where
  abbrev said : Saying
  said = said_by t.entries

  pub writes_it : Writes (Some log) said.segments goes.before goes.written goes.pushed old
  writes_it = subst (λ (o : Option Log). Writes o said.segments goes.before goes.written goes.pushed old) is goes.writes

  listed : Ascends 0 (goes.before ++ log.number ∷ []) (said.last_segment + 1)
  listed = subst (λ (ns : List ℕ). Ascends 0 ns (said.last_segment + 1)) writes_it.0 (listed_in_order j old t goes)

  pub before_below : AllByRecursion (λ k. k < log.number) goes.before
  before_below = all_below 0 goes.before log.number (before_last 0 goes.before log.number (said.last_segment + 1) listed)

  pub number_known : log.number ≤ said.last_segment
  number_known =
      let below : log.number < said.last_segment + 1 =
      (all_back (λ (k : ℕ). k < said.last_segment + 1) goes.before (log.number ∷ []) (all_below 0 (goes.before ++ log.number ∷ []) (said.last_segment + 1) listed)).0 in
      omega (arith, below)

  -- the segments before it stay
  before_same : (change : Option (List ℕ) → Option (List ℕ) → Type 0) (d c : Image) → Changed (log_name log.number) change d c
      → AllByRecursion (λ k. segment_in c k ≡ segment_in d k) goes.before
  before_same change d c made = others_agree c d (log_name log.number) goes.before made.others (below_differ log.number goes.before before_below)

  -- an image whose segment that is written has these mutations
  store_of : (ms : List Mutation) (n : ℕ) (d c : Image) → old.may_leave d → ((k : Name) → k ≢ log_name log.number → c k ≡ d k)
      → AllByRecursion (λ k. segment_in c k ≡ segment_in d k) goes.before → IsSegment log.number ms (segment_in c log.number)
      → AllByRecursion (FitsRecord said.tables said.shards) ms → AreInOrder (joined goes.parts ++ ms) → take n t.taken ≡ joined goes.parts ++ ms
      → IsStore t.entries (take n t.taken) c
  store_of ms n d c was others same segment fit ordered front =
      let found = manifest_file j.manifest old t.entries goes.manifest d was in
      record {
        file = found.0;
        there = others manifest_name (manifest_is_no_log log.number) ∙ found.1;
        manifest = found.2;
        made = goes.made;
        log = subst (λ (l : List Mutation). IsLog said.tables said.shards (segment_in c) said.segments l) (sym front)
            (log_of_parts j old t goes log writes_it (segment_in c) ms
            (segments_agree said.tables said.shards (segment_in d) (segment_in c) goes.before goes.parts same (goes.earlier d was)) segment fit ordered);
      }

  all_taken : take (length t.taken) t.taken ≡ joined goes.parts ++ (goes.written ++ goes.pushed)
  all_taken = take_all (length t.taken) t.taken (omega arith) ∙ sym goes.all

  both_fit : AllByRecursion (FitsRecord said.tables said.shards) (goes.written ++ goes.pushed)
  both_fit = all_back (FitsRecord said.tables said.shards) (joined goes.parts) (goes.written ++ goes.pushed) (all_fit j old t goes)

  all_ordered : AreInOrder (joined goes.parts ++ (goes.written ++ goes.pushed))
  all_ordered = subst AreInOrder (sym goes.all) goes.ordered

  few_committed : t.committed ≤ length t.taken
  few_committed = committed_few j old t goes

  -- at each of its moments
  pub commit_leaves : (new : Disk) → During (Changed (log_name log.number) (λ _ f. MayHaveLog log.number goes.written goes.pushed f)) old new → During (λ _ c. Holds t c) old new
  commit_leaves new call =
      reworded (Changed (log_name log.number) (λ _ f. MayHaveLog log.number goes.written goes.pushed f)) (λ _ c. Holds t c) old new call
      (λ d c was made. by_segment d c was made made.here.2)
    where
      by_segment : (d c : Image) → old.may_leave d → (made : Changed (log_name log.number) (λ _ f. MayHaveLog log.number goes.written goes.pushed f) d c)
          → IsSegment log.number goes.written made.here.0 ⊎ IsSegment log.number (goes.written ++ goes.pushed) made.here.0 → Holds t c
      by_segment d c was made (inl without) = record {
        entries = t.entries;
        listed = inl refl;
        gone = 0;
        front = inl refl;
        count = t.committed;
        least = omega arith;
        most = few_committed;
        store = store_of goes.written t.committed d c was made.others (before_same _ d c made)
            (subst (λ (f : Option (List ℕ)). IsSegment log.number goes.written (bytes_of f)) (sym made.here.1) without)
            (all_front (FitsRecord said.tables said.shards) goes.written goes.pushed both_fit)
            (front_in_order (joined goes.parts ++ goes.written) goes.pushed (subst AreInOrder (sym (append_assoc (joined goes.parts) goes.written goes.pushed)) all_ordered))
            (committed_front j old t goes);
      }
      by_segment d c was made (inr with_them) = record {
        entries = t.entries;
        listed = inl refl;
        gone = 0;
        front = inl refl;
        count = length t.taken;
        least = few_committed;
        most = omega arith;
        store = store_of (goes.written ++ goes.pushed) (length t.taken) d c was made.others (before_same _ d c made)
            (subst (λ (f : Option (List ℕ)). IsSegment log.number (goes.written ++ goes.pushed) (bytes_of f)) (sym made.here.1) with_them)
            both_fit all_ordered all_taken;
      }

  -- once it is done
  pub commit_goes : (k : Journal) (after : Log) (new : Disk) → k.log ≡ Some after → (place_of after).number ≡ log.number → LogStands (place_of after) new (goes.written ++ goes.pushed)
      → HasPushed after [] → During (Changed (log_name log.number) MayBeAnything) old new → k.manifest ≡ j.manifest → k.spare ≡ j.spare → k.last_segment ≡ j.last_segment
      → StayNoted j.notes k.notes → Goes k new (committed_all t)
  commit_goes k after new now number stands pushed call manifest spare last notes = record {
    manifest = subst (λ m. ManifestStands (manifest_place m) new t.entries) (sym manifest)
        (manifest_still step old new call (manifest_place j.manifest) t.entries (λ d c made. made.others manifest_name (manifest_is_no_log log.number)) goes.manifest);
    none_failed = goes.none_failed;
    none_leaving = goes.none_leaving;
    made = goes.made;
    before = goes.before;
    parts = goes.parts;
    earlier = earlier_still step old new call said.tables said.shards goes.before goes.parts (before_same MayBeAnything) goes.earlier;
    written = goes.written ++ goes.pushed;
    pushed = [];
    writes = subst (λ (o : Option Log). Writes o said.segments goes.before (goes.written ++ goes.pushed) [] new) (sym now)
        (writes_it.0 ∙ ap (λ (n : ℕ). goes.before ++ n ∷ []) (sym number), stands, pushed);
    all = ap (λ (l : List Mutation). joined goes.parts ++ l) (append-nil (goes.written ++ goes.pushed)) ∙ goes.all;
    committed = ap length goes.all;
    fit = goes.fit;
    ordered = goes.ordered;
    last = subst (λ (n : ℕ). said.last_segment ≤ n) (sym last) goes.last;
    spare = subst (λ (o : Option Log). IsSpare o said.last_segment new) (sym spare)
        (spare_still step old new call j.spare said.last_segment (λ d c made n above. log_changed log.number MayBeAnything d c made n (omega (arith, number_known, above))) goes.spare);
    noted = notes t.found said _ (subst (λ (l : List (List Mutation)). Noted j.notes t.found said l)
        (written_parts j.log log goes.parts (goes.written ++ goes.pushed) is
        ∙ ap (λ (l : List Mutation). goes.parts ++ l ∷ []) (sym (append-nil (goes.written ++ goes.pushed)))
        ∙ sym (written_parts k.log after goes.parts ((goes.written ++ goes.pushed) ++ []) now)) goes.noted);
  }
    where
      step : Image → Image → Type 0
      step = Changed (log_name log.number) MayBeAnything

-- ---- what is known of a journal

pub no_first : {X : Type 0} (o : Option X) → ((x : X) → o ≡ Some x → ⊥) → o ≡ None
no_first None not = refl
no_first (Some x) not = absurd (not x refl)

-- the segment that is written is one of those begun
pub number_begun : (j : Journal) (log : Log) → j.log ≡ Some log → log.number ≤ j.last_segment
number_begun j log is = (j.written log is).known

-- a fault of a commit is kept
pub commit_kept : (first kept : Option First) (before now : ℕ) (f : LogFault) → first ≡ None → LogEnds {T = Unit {0}} first kept before now (Err f)
    → (f ≡ log_fault.Mem → ⊥) → kept ≡ None → ⊥
commit_kept None kept before now log_fault.Failed none ends not_memory unkept = cc
commit_kept None kept before now log_fault.Mem none ends not_memory unkept = not_memory refl
commit_kept None kept before now (log_fault.TooLarge long most) none ends not_memory unkept = ends
commit_kept None kept before now (log_fault.Stopped x) none ends not_memory unkept = ends
commit_kept (Some x) kept before now f none ends not_memory unkept = cc

-- ---- a push

module _ (j k : Journal) (disk : Disk) (t : Told) (m : Mutation) where
  -- an image that holds what was told before
  pub holds_took : (c : Image) → Holds t c → Holds (took m t) c
  holds_took c holds = record {
    entries = holds.entries;
    listed = holds.listed;
    gone = holds.gone;
    front = holds.front;
    count = holds.count;
    least = holds.least;
    most = omega (arith, holds.most, length-append t.taken (m ∷ []));
    store = subst (λ (ms : List Mutation). IsStore holds.entries (drop holds.gone ms) c) (sym (take-append-le holds.count t.taken (m ∷ []) holds.most)) holds.store;
  }

  module _ (log after : Log) (is : j.log ≡ Some log) (now : k.log ≡ Some after) (place : place_of after ≡ place_of log)
      (more : (pushed : List Mutation) → HasPushed log pushed → HasPushed after (pushed ++ m ∷ []))
      (manifest : k.manifest ≡ j.manifest) (spare : k.spare ≡ j.spare) (last : k.last_segment ≡ j.last_segment)
      (noted : (s : Saying) (parts : List (List Mutation)) (ms : List Mutation) → Noted j.notes t.found s (parts ++ ms ∷ []) → Noted k.notes t.found s (parts ++ (ms ++ m ∷ []) ∷ [])) where
    pub push_goes : Goes j disk t → MayTake t m → Goes k disk (took m t)
    push_goes goes may =
        let said = said_by t.entries in
        let writes : Writes (Some log) said.segments goes.before goes.written goes.pushed disk = writes_it j log disk t goes is in
        record {
          manifest = subst (λ x. ManifestStands (manifest_place x) disk t.entries) (sym manifest) goes.manifest;
          none_failed = goes.none_failed;
          none_leaving = goes.none_leaving;
          made = goes.made;
          before = goes.before;
          parts = goes.parts;
          earlier = goes.earlier;
          written = goes.written;
          pushed = goes.pushed ++ m ∷ [];
          writes = subst (λ (o : Option Log). Writes o said.segments goes.before goes.written (goes.pushed ++ m ∷ []) disk) (sym now) (
            writes.0 ∙ ap (λ (p : Place). goes.before ++ p.number ∷ []) (sym place),
            subst (λ (p : Place). LogStands p disk goes.written) (sym place) writes.1,
            more goes.pushed writes.2,
          );
          all = ap (λ (l : List Mutation). joined goes.parts ++ l) (sym (append_assoc goes.written goes.pushed (m ∷ [])))
              ∙ sym (append_assoc (joined goes.parts) (goes.written ++ goes.pushed) (m ∷ [])) ∙ ap (λ (l : List Mutation). l ++ m ∷ []) goes.all;
          committed = goes.committed;
          fit = all_more (FitsRecord said.tables said.shards) t.taken m goes.fit may.fits;
          ordered = may.next;
          last = subst (λ (n : ℕ). said.last_segment ≤ n) (sym last) goes.last;
          spare = subst (λ (o : Option Log). IsSpare o said.last_segment disk) (sym spare) goes.spare;
          noted = subst (λ (l : List (List Mutation)). Noted k.notes t.found said l)
              (ap (λ (l : List Mutation). goes.parts ++ l ∷ []) (append_assoc goes.written goes.pushed (m ∷ []))
              ∙ sym (written_parts k.log after goes.parts (goes.written ++ (goes.pushed ++ m ∷ [])) now))
              (noted said goes.parts (goes.written ++ goes.pushed)
              (subst (λ (l : List (List Mutation)). Noted j.notes t.found said l) (written_parts j.log log goes.parts (goes.written ++ goes.pushed) is) goes.noted));
        }

    pub push_lasts : k.first ≡ j.first → Lasts j disk t → MayTake t m → Lasts k disk (took m t)
    push_lasts first lasts may =
        record { holds = λ c left. holds_took c (lasts.holds c left); goes = λ none. push_goes (lasts.goes (sym first ∙ none)) may }
