-- What each image of a journal that goes on has, and what an image has where one file changed.
use Rattle.std.proofs.Common.{◌≡◌, ◌≢◌, ⊎_elim, inl, ℕ, ◌≤◌, List, [], ◌∷◌, ◌++◌, length, take, drop, Option, None, Some, refl, sym, ap, subst, ◌∙◌, arith, append_assoc, length-append}
use Rattle.std.specs.List.{AllByRecursion}
use Rattle.std.proofs.lemmas.List.{append-nil}
use Rattle.cas_disk.specs.declared.name.Name.{Name}
use Rattle.cas_disk.specs.declared.name.Name.TheVariants.{Manifest as manifest_name, Log as log_name}
use Rattle.cas_disk.specs.Disk.{Image, Disk, bytes_of}
use Rattle.cas_atoms.specs.declared.atom.Mutation.{Mutation}
use Rattle.cas_mutations.specs.Allowed.{FitsRecord}
use Rattle.cas_changes.specs.declared.entry.Entry.{Entry}
use Rattle.cas_changes.specs.declared.entry.Entry.TheVariants as entry
use Rattle.cas_changes.specs.Saying.{Saying, after, said_by}
use Rattle.cas_changes.specs.Allowed.{FitsEntry}
use Rattle.cas_log.specs.Segment.{IsSegment, joined}
use Rattle.cas_log.specs.Logs.{place_of, Stands as LogStands}
use Rattle.cas_log.specs.declared.log.Log.{Log}
use Rattle.cas_manifest.specs.File.{IsManifest, MayFollow}
use Rattle.cas_manifest.specs.File as file
use Rattle.cas_manifest.specs.Manifests.{place_of as manifest_place, Stands as ManifestStands}
use Rattle.cas_manifest.specs.declared.manifest.Manifest.{Manifest}
use Rattle.cas_manifest.proofs.Appends.{said_more}
use Rattle.cas_replay.specs.Reading.{segment_in}
use Rattle.cas_replay.specs.Grammar.{AreSegments, AreInOrder, IsLog}
use Rattle.cas_journal.specs.Stores.{IsStore, Told, Holds}
use Rattle.cas_journal.specs.Journals.{Goes, Writes}
use Rattle.cas_journal.specs.declared.journal.Journal.{Journal}
use Rattle.cas_journal.proofs.Lists.{all_front, all_back, front_in_order, take_front}
use Rattle.cas_journal.proofs.Fitting.{IsAppended, goes_on_fitting}
use Rattle.cas_journal.proofs.Sayings.{InOrder, in_order}
use Rattle.cas_journal.proofs.Segments.{joined_more, segments_more, log_with_empty, log_agrees, log_fits, others_agree, none_is_manifest}

-- ---- what stands is in each image

pub manifest_file : (m : Manifest) (disk : Disk) (entries : List Entry) → ManifestStands (manifest_place m) disk entries → (c : Image) → disk.may_leave c
    → (f : List ℕ) × (c manifest_name ≡ Some f) × IsManifest entries f
manifest_file m disk entries stands c left = (
  file.front entries ++ stands.gate ∷ stands.rest,
  stands.kept c left,
  record {
    gate = stands.gate;
    rest = stands.rest;
    spelled = refl;
    closed = stands.closed;
    follow = stands.follow;
    within = omega (arith, stands.end, m.within);
  },
)

pub log_file : (log : Log) (disk : Disk) (ms : List Mutation) → LogStands (place_of log) disk ms → (c : Image) → disk.may_leave c
    → IsSegment log.number ms (segment_in c log.number)
log_file log disk ms stands c left =
    subst (λ (f : Option (List ℕ)). IsSegment log.number ms (bytes_of f)) (sym (stands.kept c left)) (record {
      size = log.size;
      blocks = stands.blocks;
      gate = 0;
      rest = [];
      spelled = refl;
      closed = λ e. absurd (omega (arith, e));
      all = stands.all;
      sized = log.sized;
      within = omega (arith, stands.end, log.within);
    })

-- ---- the store of an image

-- an image that differs from one of a store in one file alone, which isn't the manifest nor a listed segment
pub store_apart : (entries : List Entry) (ms : List Mutation) (d c : Image) (n : Name) → IsStore entries ms d → manifest_name ≢ n
    → AllByRecursion (λ k. log_name k ≢ n) (said_by entries).segments → ((k : Name) → k ≢ n → c k ≡ d k) → IsStore entries ms c
store_apart entries ms d c n store other others same = record {
  file = store.file;
  there = same manifest_name other ∙ store.there;
  manifest = store.manifest;
  made = store.made;
  log = log_agrees (said_by entries).tables (said_by entries).shards (segment_in d) (segment_in c) (said_by entries).segments ms
      (others_agree c d n (said_by entries).segments same others) store.log;
}

-- of the same files
pub same_files : (c d : Image) → ((k : Name) → c k ≡ d k) → (ns : List ℕ) → AllByRecursion (λ k. segment_in c k ≡ segment_in d k) ns
same_files c d same [] = tt
same_files c d same (n ∷ ns) = (ap bytes_of (same (log_name n)), same_files c d same ns)

-- the same store in an image with the same files
pub store_same : (entries : List Entry) (ms : List Mutation) (d c : Image) → IsStore entries ms d → ((k : Name) → c k ≡ d k) → IsStore entries ms c
store_same entries ms d c store same = record {
  file = store.file;
  there = same manifest_name ∙ store.there;
  manifest = store.manifest;
  made = store.made;
  log = log_agrees (said_by entries).tables (said_by entries).shards (segment_in d) (segment_in c) (said_by entries).segments ms
      (same_files c d same (said_by entries).segments) store.log;
}

-- where an entry names a segment, the image has that, without mutations
abbrev pub HasItsSegment : Entry → Image → Type 0
HasItsSegment (entry.NewSegment n) c = IsSegment n [] (segment_in c n)
HasItsSegment _ c = Unit {0}

-- the log of what is said after an entry, in an image of the log before it
log_after : (s : Saying) (e : Entry) (ms : List Mutation) (c : Image) → IsAppended e → FitsEntry s e → HasItsSegment e c
    → IsLog s.tables s.shards (segment_in c) s.segments ms → IsLog (after s e).tables (after s e).shards (segment_in c) (after s e).segments ms
log_after s (entry.Schema t) ms c is fits has log =
    log_fits s.tables s.shards (after s (entry.Schema t)).tables s.shards (goes_on_fitting s (entry.Schema t) tt fits) (segment_in c) s.segments ms log
log_after s (entry.AddColumns table columns) ms c is fits has log =
    log_fits s.tables s.shards (after s (entry.AddColumns table columns)).tables s.shards (goes_on_fitting s (entry.AddColumns table columns) tt fits)
    (segment_in c) s.segments ms log
log_after s (entry.NewSegment n) ms c is fits has log = log_with_empty s.tables s.shards (segment_in c) s.segments ms n log has
log_after s (entry.Store shards) ms c is fits has log = absurd is
log_after s (entry.DropSegment n) ms c is fits has log = absurd is
log_after s (entry.Change change) ms c is fits has log = log

-- an image whose manifest has one entry more
pub store_with : (entries : List Entry) (e : Entry) (ms : List Mutation) (d c : Image) → IsStore entries ms d → IsAppended e → FitsEntry (said_by entries) e → HasItsSegment e d
    → ((k : Name) → k ≢ manifest_name → c k ≡ d k) → (f : List ℕ) → c manifest_name ≡ Some f → IsManifest (entries ++ e ∷ []) f → IsStore (entries ++ e ∷ []) ms c
store_with entries e ms d c store is fits has same f there manifest =
    let before = said_by entries in
    let all = after before e in
    let log : IsLog all.tables all.shards (segment_in d) all.segments ms = log_after before e ms d is fits has store.log in
    let said : IsLog (said_by (entries ++ e ∷ [])).tables (said_by (entries ++ e ∷ [])).shards (segment_in d) (said_by (entries ++ e ∷ [])).segments ms =
    subst (λ (s : Saying). IsLog s.tables s.shards (segment_in d) s.segments ms) (sym (said_more entries e)) log in
    record {
      file = f;
      there = there;
      manifest = manifest;
      made = some entries;
      log = log_agrees (said_by (entries ++ e ∷ [])).tables (said_by (entries ++ e ∷ [])).shards (segment_in d) (segment_in c) (said_by (entries ++ e ∷ [])).segments ms
          (others_agree c d manifest_name (said_by (entries ++ e ∷ [])).segments same (none_is_manifest (said_by (entries ++ e ∷ [])).segments)) said;
    }
  where
    some : (entries : List Entry) → entries ++ e ∷ [] ≢ []
    some [] is = cc
    some (x ∷ xs) is = cc

-- where no mutation may be gone, an image has a front of them all
pub whole_store : (t : Told) (c : Image) → t.leaving ≡ 0 → (holds : Holds t c) → IsStore holds.entries (take holds.count t.taken) c
whole_store t c none holds =
    subst (λ (n : ℕ). IsStore holds.entries (drop n (take holds.count t.taken)) c) (⊎_elim (λ is. is) (λ (is : _ × (holds.gone ≡ t.leaving)). is.1 ∙ none) holds.front) holds.store

-- ---- a journal that goes on

module _ (j : Journal) (disk : Disk) (t : Told) (goes : Goes j disk t) where
  abbrev said : Saying
  said = said_by t.entries

  -- the segments that are listed ascend
  pub listed_in_order : InOrder said
  listed_in_order = in_order t.entries goes.manifest.follow

  pub all_fit : AllByRecursion (FitsRecord said.tables said.shards) (joined goes.parts ++ (goes.written ++ goes.pushed))
  all_fit = subst (λ (l : List Mutation). AllByRecursion (FitsRecord said.tables said.shards) l) (sym goes.all) goes.fit

  pub written_fit : AllByRecursion (FitsRecord said.tables said.shards) (goes.written ++ goes.pushed)
  written_fit = all_back (FitsRecord said.tables said.shards) (joined goes.parts) (goes.written ++ goes.pushed) all_fit

  -- what is committed is a front of what was taken
  pub committed_front : take t.committed t.taken ≡ joined goes.parts ++ goes.written
  committed_front =
      ap (λ (n : ℕ). take n t.taken) (sym goes.committed)
      ∙ take_front (joined goes.parts ++ goes.written) goes.pushed t.taken (append_assoc (joined goes.parts) goes.written goes.pushed ∙ goes.all)

  pub committed_few : t.committed ≤ length t.taken
  committed_few =
      omega (arith, goes.committed, ap length goes.all, length-append (joined goes.parts) (goes.written ++ goes.pushed), length-append (joined goes.parts) goes.written, length-append goes.written goes.pushed)

  committed_in_order : AreInOrder (joined goes.parts ++ goes.written)
  committed_in_order =
      front_in_order (joined goes.parts ++ goes.written) goes.pushed
      (subst AreInOrder (sym (append_assoc (joined goes.parts) goes.written goes.pushed ∙ goes.all)) goes.ordered)

  -- the log of an image whose segment that is written has these mutations
  pub log_of_parts : (log : Log) → Writes (Some log) said.segments goes.before goes.written goes.pushed disk → (f : ℕ → List ℕ) (ms : List Mutation)
      → AreSegments said.tables said.shards f goes.before goes.parts → IsSegment log.number ms (f log.number)
      → AllByRecursion (FitsRecord said.tables said.shards) ms → AreInOrder (joined goes.parts ++ ms)
      → IsLog said.tables said.shards f said.segments (joined goes.parts ++ ms)
  log_of_parts log writes f ms earlier is fit ordered =
      subst (λ (ns : List ℕ). IsLog said.tables said.shards f ns (joined goes.parts ++ ms)) (sym writes.0) (record {
        parts = goes.parts ++ ms ∷ [];
        segments = segments_more said.tables said.shards f goes.before goes.parts log.number ms earlier (record { segment = is; fit = fit });
        all = joined_more goes.parts ms;
        ordered = ordered;
      })

  log_by : (o : Option Log) → Writes o said.segments goes.before goes.written goes.pushed disk → (c : Image) → disk.may_leave c
      → IsLog said.tables said.shards (segment_in c) said.segments (joined goes.parts ++ goes.written)
  log_by None writes c left =
      let none : joined goes.parts ++ goes.written ≡ joined goes.parts = ap (λ (l : List Mutation). joined goes.parts ++ l) writes.1 ∙ append-nil (joined goes.parts) in
      subst (λ (ns : List ℕ). IsLog said.tables said.shards (segment_in c) ns (joined goes.parts ++ goes.written)) (sym writes.0)
      (record { parts = goes.parts; segments = goes.earlier c left; all = sym none; ordered = committed_in_order })
  log_by (Some log) writes c left =
      log_of_parts log writes (segment_in c) goes.written (goes.earlier c left) (log_file log disk goes.written writes.1 c left)
      (all_front (FitsRecord said.tables said.shards) goes.written goes.pushed written_fit) committed_in_order

  -- each image is the store of what is committed
  pub store_now : (c : Image) → disk.may_leave c → IsStore t.entries (take t.committed t.taken) c
  store_now c left =
      let found = manifest_file j.manifest disk t.entries goes.manifest c left in
      record {
        file = found.0;
        there = found.1;
        manifest = found.2;
        made = goes.made;
        log = subst (λ (ms : List Mutation). IsLog said.tables said.shards (segment_in c) said.segments ms) (sym committed_front) (log_by j.log goes.writes c left);
      }

  pub holds_now : (c : Image) → disk.may_leave c → Holds t c
  holds_now c left = record { entries = t.entries; listed = inl refl; gone = 0; front = inl refl; count = t.committed; least = omega arith; most = committed_few; store = store_now c left }
