-- Segments are dropped, in the words of the history.
use Rattle.std.proofs.Common.{◌≡◌, Bool, true, false, ℕ, ◌≤◌, List, [], ◌∷◌, ◌++◌, length, map, Option, None, Some, Result, Ok, Err, is_some, refl, sym, ap, ◌∙◌, subst, arith, append-nil}
use Rattle.std.proofs.lemmas.Grind.{flat_map-append}
use Rattle.std.specs.Prelude.{is_ok, slice_get}
use Rattle.cas_types.specs.declared.schema.TableSchema.{TableSchema}
use Rattle.cas_disk.specs.Disk.{Disk, During}
use Rattle.cas_atoms.specs.declared.atom.Mutation.{Mutation}
use Rattle.cas_changes.specs.Saying.{frontiers_in, said_by}
use Rattle.cas_changes.specs.declared.entry.Entry.{Entry as ManifestEntry}
use Rattle.cas_changes.specs.declared.entry.Entry.TheVariants.{DropSegment}
use Rattle.cas_changes.specs.declared.said.Part.{Part}
use Rattle.cas_gates.specs.declared.first.First.{First}
use Rattle.cas_journal.specs.Ends.{Ends, IsLowestNeeded}
use Rattle.cas_journal.specs.Journals.{Lasts}
use Rattle.cas_journal.specs.Reach.{HasNoPlace, IsOver, reach_dropped, reach_of}
use Rattle.cas_journal.specs.Stores.{Told, SameTables}
use Rattle.cas_journal.specs.declared.fault.Counted.{Counted}
use Rattle.cas_journal.specs.declared.fault.Counted.TheVariants.{Segments, Manifest, Files}
use Rattle.cas_journal.specs.declared.fault.JournalFault.{JournalFault}
use Rattle.cas_journal.specs.declared.fault.JournalFault.TheVariants as journal
use Rattle.cas_journal.specs.declared.journal.Journal.{Journal}
use Rattle.cas_room.specs.Dropping.{Drops as DropsOfRoom, IsTrimmed}
use Rattle.cas_room.specs.Keeping.{Keeps}
use Rattle.cas_room.specs.Rooms.{accepted_in}
use Rattle.cas_room.proofs.Flushed.{as_dropped}
use Rattle.cas_shard.specs.Stands.{ShardState}
use Rattle.cas_sessions.specs.declared.answer.Fault.{Fault}
use Rattle.cas_sessions.specs.Dropping.{Drops, DropsSegments, EndsAfter, NoneMayGo, WhyNoMore}
use Rattle.cas_lasting.specs.Entered.{entries_in, ListFiles}
use Rattle.cas_lasting.specs.History.{DiskState, History, change_told, changes_told, shard_at}
use Rattle.cas_lasting.specs.Nodes.{LastsFor, Moves, all_in, RememberJust, AreFilled, State, StandsFor, disk_of, files_in, Explains}
use Rattle.cas_sessions.specs.Inner.Faults.{fault_for}
use Rattle.cas_lasting.proofs.Behind.{behind_said}
use Rattle.cas_lasting.proofs.Crashing.{few_dropped}
use Rattle.cas_lasting.proofs.Explaining.{explains_dropped, explains_still, goes_nowhere, keep_files}
use Rattle.cas_lasting.proofs.Files.{list_said}
use Rattle.cas_lasting.proofs.Lasting.{still_in_order, still_next, untrimmed}
use Rattle.cas_lasting.proofs.Tables.{goes_before}
use Rattle.cas_recovery.specs.Restored.{IsBehind, RememberAll}
use Rattle.cas_shard.specs.declared.entry.ShardOpening.{ShardOpening}

-- ---- how it ends

no_place : (j : Journal) (what : Counted) (number : ℕ) → IsOver what (DropSegment number) j → HasNoPlace (DropSegment number) (reach_of j)
no_place j Manifest number over = over
no_place j Files number over = absurd (omega (arith, over, j.manifest.few))
no_place j Segments number over = absurd over

module _ (s t : State) where
  off : t.journal.first ≡ None → (disk_of t).stopped ≡ false
  off none = ap is_some none

  ended : (first : Option First) → s.journal.first ≡ first → (f : JournalFault) → Ends {T = ℕ} first t.journal.first s.faults t.faults (Err f)
      → ((what : Counted) (most : ℕ) → f ≡ journal.TooMany what most → (number : ℕ) × IsOver what (DropSegment number) t.journal) → WhyNoMore (disk_of s) (disk_of t) (fault_for f)
  ended (Some first) was (journal.Stopped g) ends full = (ap is_some was, ap is_some ends.1)
  ended (Some first) was (journal.TooLarge long most) ends full = absurd (cc ends.0)
  ended (Some first) was (journal.TooMany what most) ends full = absurd (cc ends.0)
  ended (Some first) was journal.Failed ends full = absurd (cc ends.0)
  ended (Some first) was journal.Mem ends full = absurd (cc ends.0)
  ended None was (journal.Stopped g) ends full = absurd ends
  ended None was (journal.TooLarge long most) ends full = absurd ends
  ended None was (journal.TooMany what most) ends full =
      let (number, over) = full what most refl in
      (refl, off ends, (number, no_place t.journal what number over))
  ended None was journal.Failed ends full = (ap is_some ends.1, ends.0)
  ended None was journal.Mem ends full = off ends

  ended_ok : (first : Option First) → s.journal.first ≡ first → (count : ℕ) → Ends {T = ℕ} first t.journal.first s.faults t.faults (Ok count)
      → ((disk_of s).stopped ≡ false) × ((disk_of t).stopped ≡ false)
  ended_ok None was count ends = (ap is_some was, off ends)
  ended_ok (Some first) was count ends = absurd (cc ends.0)

-- ---- what goes on

-- all but the journal and the folder's count are as before
pub record IsBesideLog (s t : State) : Type 0 where
  pub limits : t.limits ≡ s.limits
  pub tables : t.tables ≡ s.tables
  pub shards : t.shards ≡ s.shards
  pub clock : t.clock ≡ s.clock
  pub list : t.list ≡ s.list
  pub session : t.session ≡ s.session
  pub calls : t.calls ≡ s.calls
  pub accepted : t.accepted ≡ s.accepted
  pub committed : t.committed ≡ s.committed
  pub reads : t.reads ≡ s.reads
  pub last_file : t.last_file ≡ s.last_file
  pub live : t.live ≡ s.live
  pub frontiers : t.frontiers ≡ s.frontiers
  pub faults : s.faults ≤ t.faults

none_changed : (numbers : List ℕ) → changes_told (map DropSegment numbers) ≡ []
none_changed [] = refl
none_changed (n ∷ numbers) = none_changed numbers

told_dropped : (entries : List ManifestEntry) (numbers : List ℕ) → changes_told (entries ++ map DropSegment numbers) ≡ changes_told entries
told_dropped entries numbers =
    flat_map-append change_told entries (map DropSegment numbers) ∙ ap (λ cs. changes_told entries ++ cs) (none_changed numbers) ∙ append-nil (changes_told entries)

-- no write failed, and of whatever was told no segment may go
abbrev pub Trims : State → Disk → Type 0
Trims t e =
    (is_some t.journal.first ≡ false)
    × ((found : List Mutation) (told : Told) → Keeps t.journal e t.list t.committed found told → t.frontiers ≡ frontiers_in (said_by told.entries)
    → IsTrimmed (said_by told.entries) (all_in found t))

module _ (s t : State) (d e : Disk) (r : Result ℕ JournalFault) (beside : IsBesideLog s t)
    (outcome : Ends {T = ℕ} s.journal.first t.journal.first s.faults t.faults r) (during : During SameTables d e)
    (kept : (found : List Mutation) (told : Told) → Keeps s.journal d s.list s.committed found told → s.frontiers ≡ frontiers_in (said_by told.entries)
    → (u : Told) × DropsOfRoom told u × Keeps t.journal e t.list t.committed found u) (b : Bool) (good : b ≡ true → Trims t e) where
  -- the history then
  abbrev after_of : History → History
  after_of h = record h { trimmed = b; disk = disk_of t }

  stands_dropped : (h : History) → StandsFor h s → StandsFor (after_of h) t
  stands_dropped h stands = record {
    limits = stands.limits ∙ sym beside.limits;
    tables = stands.tables ∙ sym beside.tables;
    clock = stands.clock ∙ sym beside.clock;
    session = stands.session ∙ sym beside.session;
    calls = stands.calls ∙ sym beside.calls;
    disk = refl;
    count = stands.count ∙ ap length (sym beside.shards);
    shards = λ n x got. stands.shards n x (subst (λ (xs : List ShardState). slice_get xs n ≡ Some x) beside.shards got);
    entered = λ n lt. stands.entered n lt ∙ ap (entries_in n) (sym beside.list);
    memory =
        subst (λ (ts : List TableSchema). RememberJust ts h.unflushed t.shards) (sym beside.tables) (subst (RememberJust s.tables h.unflushed) (sym beside.shards) stands.memory);
    filled = subst (AreFilled h.filled) (sym beside.shards) stands.filled;
  }

  frontiers_now : (h : History) (found : List Mutation) (told u : Told) → LastsFor h found s d told → DropsOfRoom told u → t.frontiers ≡ frontiers_in (said_by u.entries)
  frontiers_now h found told u lasts drops =
      beside.frontiers ∙ lasts.frontiers ∙ ap (λ (parts : List Part). map (λ (p : Part). p.frontier) parts) (sym (as_dropped told.entries drops.numbers).parts)
      ∙ ap (λ es. frontiers_in (said_by es)) (sym drops.entries)

  lasts_dropped : (h : History) (found : List Mutation) (told u : Told) → LastsFor h found s d told → DropsOfRoom told u → Keeps t.journal e t.list t.committed found u
      → LastsFor (after_of h) found t e u
  lasts_dropped h found told u lasts drops keeps =
      let alike = as_dropped told.entries drops.numbers in
      record {
        keeps = keeps;
        tables = ap (λ es. (said_by es).tables) drops.entries ∙ alike.tables ∙ lasts.tables ∙ sym beside.tables;
        shards = ap (λ es. (said_by es).shards) drops.entries ∙ alike.shards ∙ lasts.shards ∙ ap (λ l. l.shards) (sym beside.limits);
        few = few_dropped told.failed u.failed drops.failed lasts.few;
        ordered = still_in_order found s t beside.list lasts.ordered;
        next = still_next found s t t.shards beside.list (λ n x got. lasts.next n x (subst (λ (xs : List ShardState). slice_get xs n ≡ Some x) beside.shards got));
        counted = omega (arith, lasts.counted, beside.accepted, ap (λ l. length (accepted_in l)) beside.list);
        acknowledged = (omega (arith, lasts.acknowledged.0, beside.committed), omega (arith, lasts.acknowledged.1, ap (λ l. length (accepted_in l)) beside.list));
        whole = λ on.
            let all = lasts.whole (goes_before {T = ℕ} s.journal.first t.journal.first s.faults t.faults r outcome on) in
            omega (arith, all, beside.committed, ap (λ l. length (accepted_in l)) beside.list);
        behind =
            subst (λ es. IsBehind (said_by es) t.shards t.last_file t.live) (sym drops.entries)
            (behind_said (said_by told.entries) (said_by (told.entries ++ map DropSegment drops.numbers)) t.shards t.last_file t.live alike.shards alike.parts alike.numbers alike.listed
            (subst (λ (xs : List ShardState). IsBehind (said_by told.entries) xs t.last_file t.live) (sym beside.shards)
            (subst (λ (k : ℕ). IsBehind (said_by told.entries) s.shards k t.live) (sym beside.last_file)
            (subst (λ (k : ℕ). IsBehind (said_by told.entries) s.shards s.last_file k) (sym beside.live) lasts.behind))));
        files =
            subst (λ es. ListFiles (said_by es) (files_in t.shards)) (sym drops.entries)
            (list_said (said_by told.entries) (said_by (told.entries ++ map DropSegment drops.numbers)) (files_in t.shards) alike.shards alike.parts
            (subst (λ (xs : List ShardState). ListFiles (said_by told.entries) (files_in xs)) (sym beside.shards) lasts.files));
        changes = ap changes_told drops.entries ∙ told_dropped told.entries drops.numbers ∙ lasts.changes;
        frontiers = frontiers_now h found told u lasts drops;
        trimmed = λ on. ((good on).0, (good on).1 found u keeps (frontiers_now h found told u lasts drops));
      }

  explains : (h : History) (found : List Mutation) (told u : Told) → DropsOfRoom told u → (openings : ℕ → ShardOpening) → Explains openings h found s d told
      → Explains openings (after_of h) found t e u
  explains h found told u drops openings explained =
      explains_dropped openings (after_of h) found t e told u drops
      (explains_still openings h (after_of h) found s t d e told (λ n. goes_nowhere (shard_at h n)) refl (ap accepted_in beside.list) (keep_files told d e during)
      (λ ms have. subst (λ (xs : List ShardState). RememberAll t.tables ms xs) (sym beside.shards) (subst (λ (ts : List TableSchema). RememberAll ts ms s.shards) (sym beside.tables) have)) explained)

  same_files : (disk_of t).files ≡ (disk_of s).files
  same_files = ap files_in beside.shards

  drops_so : (count : ℕ) → reach_of t.journal ≡ reach_dropped count (reach_of s.journal) → Drops count (disk_of s) (disk_of t)
  drops_so count reach = record { reach = reach; faults = beside.faults; files = (same_files, beside.reads, beside.last_file, beside.live) }

  moves_so : (x : Result ℕ Fault) → is_ok x ≡ b → (count : ℕ) → reach_of t.journal ≡ reach_dropped count (reach_of s.journal) → EndsAfter count x (disk_of s) (disk_of t)
      → Moves (λ h after. DropsSegments h x after) s t d e
  moves_so x same count reach ends h stands = (
    after_of h,
    record {
      disk = disk_of t;
      count = count;
      drops = subst (λ (k : DiskState). Drops count k (disk_of t)) (sym stands.disk) (drops_so count reach);
      ends = subst (λ (k : DiskState). EndsAfter count x k (disk_of t)) (sym stands.disk) ends;
      follows = ap (λ (y : Bool). record h { trimmed = y; disk = disk_of t }) (sym same);
    },
    record {
      stands = stands_dropped h stands;
      lasts = λ found told lasts.
          let (u, drops, keeps) = kept found told lasts.keeps lasts.frontiers in
          (u, lasts_dropped h found told u lasts drops keeps, λ openings explained. explains h found told u drops openings explained);
    },
  )

pub moves_dropped : (s t : State) (d e : Disk) (count : ℕ) → IsBesideLog s t → Ends {T = ℕ} s.journal.first t.journal.first s.faults t.faults (Ok count) → During SameTables d e
    → ((found : List Mutation) (told : Told) → Keeps s.journal d s.list s.committed found told → s.frontiers ≡ frontiers_in (said_by told.entries)
    → (u : Told) × DropsOfRoom told u × Keeps t.journal e t.list t.committed found u)
    → ((found : List Mutation) (told : Told) → Keeps t.journal e t.list t.committed found told → t.frontiers ≡ frontiers_in (said_by told.entries)
    → IsTrimmed (said_by told.entries) (all_in found t))
    → reach_of t.journal ≡ reach_dropped count (reach_of s.journal) → Moves (λ h after. DropsSegments h (Ok count) after) s t d e
moves_dropped s t d e count beside outcome during kept trims reach =
    let both = ended_ok s t s.journal.first refl count outcome in
    moves_so s t d e (Ok count) beside outcome during kept true (λ on. (both.1, trims)) (Ok count) refl count reach (refl, both.0, both.1)

pub moves_dropped_less : (s t : State) (d e : Disk) (f : JournalFault) (x : Fault) → x ≡ fault_for f → IsBesideLog s t
    → Ends {T = ℕ} s.journal.first t.journal.first s.faults t.faults (Err f) → During SameTables d e
    → ((found : List Mutation) (told : Told) → Keeps s.journal d s.list s.committed found told → s.frontiers ≡ frontiers_in (said_by told.entries)
    → (u : Told) × DropsOfRoom told u × Keeps t.journal e t.list t.committed found u)
    → (count : ℕ) × (reach_of t.journal ≡ reach_dropped count (reach_of s.journal))
    → ((what : Counted) (most : ℕ) → f ≡ journal.TooMany what most → (number : ℕ) × IsOver what (DropSegment number) t.journal)
    → Moves (λ h after. DropsSegments h (Err x) after) s t d e
moves_dropped_less s t d e f x is beside outcome during kept reach full =
    subst (λ (y : Fault). Moves (λ h after. DropsSegments h (Err y) after) s t d e) (sym is)
    (moves_so s t d e (Err f) beside outcome during kept false untrimmed (Err (fault_for f)) refl reach.0 reach.1 (ended s t s.journal.first refl f outcome full))

-- the lowest is needed
pub none_may_go : (t : State) (e : Disk) → t.journal.first ≡ None
    → ((told : Told) → Lasts t.journal e told → IsLowestNeeded t.journal.notes.shards t.frontiers told e (said_by told.entries).segments) → NoneMayGo t e
none_may_go t e going stays h found told lasts =
    let shards : t.journal.notes.shards ≡ t.limits.shards = (lasts.keeps.lasts.goes going).noted.0 ∙ lasts.shards in
    subst (λ (k : ℕ). IsLowestNeeded k t.frontiers told e (said_by told.entries).segments) shards (stays told lasts.keeps.lasts)
