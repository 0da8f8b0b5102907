-- A store after a definition.
use Rattle.std.proofs.Common.{◌≡◌, ◌⊎◌, append-nil, inl, inr, ◌<◌, ◌≤◌, ◌+◌, ◌^◌, ◌==◌, ℕ, zero, suc, Bool, true, false, List, [], ◌∷◌, ◌++◌, length, map, Option, Some, None, Result, Ok, Err, is_some, refl, sym, ap, ◌∙◌, subst, arith, length-append}
use Rattle.std.specs.Prelude.{slice_get, slice_set, if◌then◌else◌}
use Rattle.std.proofs.lemmas.Bool.Decides.{nat_tests}
use Rattle.std.proofs.lemmas.Option.{same_Some}
use Rattle.cas_types.specs.Limits.{IsShardCount}
use Rattle.cas_types.specs.declared.schema.Column.{Column}
use Rattle.cas_types.specs.declared.schema.TableSchema.{TableSchema}
use Rattle.cas_gates.specs.declared.first.First.{First}
use Rattle.cas_lasting.specs.Entered.{ListFiles, entries_in}
use Rattle.cas_bind.specs.declared.bound.Bound.{Bound}
use Rattle.cas_bind.specs.declared.bound.Bound.TheVariants as bound
use Rattle.cas_changes.specs.Allowed.{FitsEntry, HasSpelling}
use Rattle.cas_changes.specs.Spelling.{entry_bytes}
use Rattle.cas_changes.specs.declared.entry.Entry.TheVariants as entry
use Rattle.cas_journal.specs.Ends.{Ends, IsDefinition, told_after}
use Rattle.cas_journal.specs.Reach.{Reach, GoesOn, HasNoPlace, reach_of}
use Rattle.cas_journal.specs.declared.fault.Counted.{Counted}
use Rattle.cas_journal.specs.declared.fault.JournalFault.{JournalFault}
use Rattle.cas_journal.specs.declared.fault.JournalFault.TheVariants.{TooLarge, TooMany, Stopped, Failed, Mem}
use Rattle.cas_journal.specs.Stores.{MayList, SameTables, appended, failed_at, Told}
use Rattle.cas_manifest.proofs.Appends.{said_more}
use Rattle.cas_manifest.specs.Manifests.{room_of}
use Rattle.cas_render.specs.declared.reply.Failure.TheVariants as failure
use Rattle.cas_render.specs.declared.reply.Reply.{Reply}
use Rattle.cas_render.specs.declared.reply.Reply.TheVariants as reply
use Rattle.define_laws.specs.Entries.{MayTell}
use Rattle.cas_disk.specs.Disk.{Disk, During}
use Rattle.cas_atoms.specs.declared.atom.Mutation.{Mutation}
use Rattle.cas_bind.specs.Tables.{AreInPlace, tables_after, with_added}
use Rattle.cas_changes.specs.Saying.{Saying, said_by, nothing, after, frontiers_in}
use Rattle.cas_changes.specs.declared.entry.Entry.{Entry as ManifestEntry}
use Rattle.cas_define.specs.declared.addition.Addition.{Addition}
use Rattle.cas_history.specs.declared.item.Item.{Item}
use Rattle.cas_journal.proofs.Fitting.{NoKeys, no_keys, same_order}
use Rattle.cas_room.specs.declared.event.Event.{Event}
use Rattle.cas_room.specs.Keeping.{Keeps}
use Rattle.cas_room.specs.Rooms.{accepted_in}
use Rattle.cas_shard.specs.declared.entry.ShardOpening.{ShardOpening}
use Rattle.cas_shard.specs.Shards.{ShardHistory}
use Rattle.cas_shard.specs.Stands.{ShardState, Stands, order_at, order_of}
use Rattle.cas_shard.proofs.Standing.{stands_under}
use Rattle.cas_lasting.specs.History.{Changes, Defines, History, DiskState, changes_told, shard_at}
use Rattle.cas_lasting.specs.Inner.Definitions.{MayBeTold}
use Rattle.cas_lasting.specs.Listing.{ListsNone}
use Rattle.cas_lasting.specs.Nodes.{AreFilled, Explains, RememberJust, State, StandsFor, LastsFor, disk_of, files_in, Moves}
use Rattle.cas_lasting.specs.Inner.Printed.{reply_for}
use Rattle.cas_recovery.specs.Restored.{IsBehind, RememberAll}
use Rattle.cas_lasting.proofs.Behind.{behind_defined, still_behind}
use Rattle.cas_lasting.proofs.Explaining.{explains_still, explains_wider, goes_nowhere as goes_further, keep_files, keep_files_none}
use Rattle.cas_lasting.proofs.Files.{Files, list_defined, list_same, told_defined}
use Rattle.cas_lasting.proofs.Parts.{said_few}
use Rattle.cas_lasting.proofs.Lasting.{lasts_as, not_both, stands_untrimmed, still_in_order, still_next, untrimmed}

-- ---- a shard under more tables

first_of : (ts us : List TableSchema) (n : ℕ) → n < length ts → order_at (ts ++ us) n ≡ order_at ts n
first_of [] us n lt = absurd (omega (arith, lt))
first_of (t ∷ ts) us zero lt = refl
first_of (t ∷ ts) us (suc n) lt = first_of ts us n (omega (arith, lt))

pub under_created : (tables : List TableSchema) (t : TableSchema) (s : ShardHistory) (x : ShardState) → Stands tables s x → Stands (tables ++ t ∷ []) s x
under_created tables t s x stands =
    stands_under tables (tables ++ t ∷ []) s x (omega (arith, length-append tables (t ∷ []))) (first_of tables (t ∷ [])) stands

module _ (a : Addition) (bare : NoKeys a.columns) where
  one_order : (t : TableSchema) (b : Bool) → order_of (Some (if b then record t { columns = t.columns ++ a.columns } else t)) ≡ order_of (Some t)
  one_order t true = same_order t.columns a.columns bare
  one_order t false = refl

  pub each_order : (ts : List TableSchema) (n : ℕ) → order_at (map (with_added a) ts) n ≡ order_at ts n
  each_order [] n = refl
  each_order (t ∷ ts) zero = one_order t (t.number == a.table)
  each_order (t ∷ ts) (suc n) = each_order ts n

  pub many : (ts : List TableSchema) → length (map (with_added a) ts) ≡ length ts
  many [] = refl
  many (t ∷ ts) = ap suc (many ts)

  pub under_altered : (tables : List TableSchema) (s : ShardHistory) (x : ShardState) → Stands tables s x → Stands (map (with_added a) tables) s x
  under_altered tables s x stands =
      stands_under tables (map (with_added a) tables) s x (omega (arith, many tables)) (λ n lt. each_order tables n) stands

-- ---- the tables after a definition

pub created : (ts : List TableSchema) (t : TableSchema) → tables_after ts (bound.Create t) ≡ ts ++ t ∷ []
unfolding tables_after
created ts t = refl

pub mapped : (ts : List TableSchema) (a : Addition) → tables_after ts (bound.Alter a) ≡ map (with_added a) ts
unfolding tables_after
mapped ts a = refl

-- the table with these columns behind the others
abbrev pub with_columns : Addition → TableSchema → TableSchema
with_columns a t = record t { columns = t.columns ++ a.columns }

with_it : (a : Addition) (t : TableSchema) → t.number ≡ a.table → with_added a t ≡ with_columns a t
with_it a t e = grind (arith, nat_tests, e)

without_it : (a : Addition) (t : TableSchema) → (t.number ≡ a.table → ⊥) → with_added a t ≡ t
without_it a t h = grind (arith, nat_tests, h)

before_all : (a : Addition) (k : ℕ) (ts : List TableSchema) → AreInPlace k ts → a.table < k → map (with_added a) ts ≡ ts
before_all a k [] n h = refl
before_all a k (t ∷ ts) n h = (λ i. without_it a t (λ e. absurd (omega (arith, e, n.0))) i ∷ before_all a (k + 1) ts n.1 (omega arith) i)

at_place : (a : Addition) (k : ℕ) (ts : List TableSchema) (i : ℕ) (t : TableSchema) → AreInPlace k ts → a.table ≡ k + i → slice_get ts i ≡ Some t
    → map (with_added a) ts ≡ slice_set ts i (with_columns a t)
at_place a k [] i t n e there = absurd (cc there)
at_place a k (u ∷ ts) zero t n e there =
    let same : u ≡ t = same_Some u t there in
    (λ j. (with_it a u (omega (arith, e, n.0)) ∙ ap (with_columns a) same) j ∷ before_all a (k + 1) ts n.1 (omega (arith, e)) j)
at_place a k (u ∷ ts) (suc i) t n e there =
    (λ j. without_it a u (λ x. absurd (omega (arith, e, x, n.0))) j ∷ at_place a (k + 1) ts i t n.1 (omega (arith, e)) there j)

pub altered : (ts : List TableSchema) (a : Addition) (t : TableSchema) → AreInPlace 0 ts → slice_get ts a.table ≡ Some t → slice_set ts a.table (with_columns a t) ≡ map (with_added a) ts
altered ts a t n there = sym (at_place a 0 ts a.table t n (omega arith) there)

-- the same, by two looks at the table and the columns that were made of it
pub altered_by : (ts : List TableSchema) (a : Addition) (t u : TableSchema) (columns : List Column) → AreInPlace 0 ts → slice_get ts a.table ≡ Some t → slice_get ts a.table ≡ Some u
    → columns ≡ t.columns ++ a.columns → slice_set ts a.table (record u { columns = columns }) ≡ map (with_added a) ts
altered_by ts a t u columns n there here is =
    let same : t ≡ u = same_Some t u (sym there ∙ here) in
    ap (λ (cs : List Column). slice_set ts a.table (record u { columns = cs })) (is ∙ ap (λ (v : TableSchema). v.columns ++ a.columns) same) ∙ altered ts a u n here

same_table : (t u : TableSchema) → entry.Schema t ≡ entry.Schema u → u ≡ t
same_table t u e = cc

-- the tables with one more behind them, in a list that got its place before
pub pushed : (ts us vs : List TableSchema) (t u : TableSchema) → us ≡ ts → vs ≡ us ++ u ∷ [] → entry.Schema t ≡ entry.Schema u → vs ≡ ts ++ t ∷ []
pushed ts us vs t u same more e = more ∙ ap (λ (l : List TableSchema). l ++ u ∷ []) same ∙ ap (λ (v : TableSchema). ts ++ v ∷ []) (same_table t u e)

-- ---- a definition that may be told

-- what may be told to each manifest of these tables may be to this one
witness : (ts : List TableSchema) (b : Bound) (x : ManifestEntry) → MayBeTold ts b x → (said : Saying) × (said.tables ≡ ts) × MayTell said x (tables_after ts b)
witness ts b x may =
    let said = record nothing { tables = ts; shards = 1 } in
    (said, refl, may.tells said refl (omega arith))

pub has_spelling : (ts : List TableSchema) (b : Bound) (x : ManifestEntry) → MayBeTold ts b x → HasSpelling x
has_spelling ts b x may = (witness ts b x may).2.spelled

pub is_short : (ts : List TableSchema) (b : Bound) (x : ManifestEntry) → MayBeTold ts b x → length (entry_bytes x) < 2 ^ 32
is_short ts b x may = (witness ts b x may).2.short

pub adds_no_keys : (ts : List TableSchema) (a : Addition) → MayBeTold ts (bound.Alter a) (entry.AddColumns a.table a.columns) → NoKeys a.columns
adds_no_keys ts a may =
    let (said, same, tells) = witness ts (bound.Alter a) (entry.AddColumns a.table a.columns) may in
    let fits = tells.fits in
    no_keys fits.1.columns a.columns fits.3.2

-- ---- a store with other tables

-- its memory stands for the history with these tables
pub stands_defined : (h : History) (s t : State) → StandsFor h s → t.limits ≡ s.limits → t.clock ≡ s.clock → t.session ≡ s.session → t.calls ≡ s.calls
    → t.list ≡ s.list → t.shards ≡ s.shards → ((q : ShardHistory) (x : ShardState) → Stands h.tables q x → Stands t.tables q x)
    → RememberJust t.tables h.unflushed s.shards → StandsFor (record h { tables = t.tables; trimmed = false; disk = disk_of t }) t
stands_defined h s t stands limits clock session calls list shards under remembers = record {
  limits = stands.limits ∙ sym limits;
  tables = refl;
  clock = stands.clock ∙ sym clock;
  session = stands.session ∙ sym session;
  calls = stands.calls ∙ sym calls;
  disk = refl;
  count = stands.count ∙ ap length (sym shards);
  shards = λ n x got. under (shard_at h n) x (stands.shards n x (subst (λ (xs : List ShardState). slice_get xs n ≡ Some x) shards got));
  entered = λ n lt. stands.entered n lt ∙ ap (entries_in n) (sym list);
  memory = subst (RememberJust t.tables h.unflushed) (sym shards) remembers;
  filled = subst (AreFilled h.filled) (sym shards) stands.filled;
}

-- its disk keeps that, by what the journal is told then
pub lasts_defined : (h k : History) (found : List Mutation) (s t : State) (d e : Disk) (told now : Told) → LastsFor h found s d told → k.acknowledged ≡ h.acknowledged → k.trimmed ≡ false
    → Keeps t.journal e t.list t.committed found now → length now.failed ≤ 1 → (said_by now.entries).tables ≡ t.tables
    → (said_by now.entries).shards ≡ (said_by told.entries).shards
    → t.limits ≡ s.limits → t.list ≡ s.list → t.shards ≡ s.shards → t.accepted ≡ s.accepted → t.committed ≡ s.committed
    → (is_some t.journal.first ≡ false → is_some s.journal.first ≡ false) → IsBehind (said_by now.entries) t.shards t.last_file t.live
    → ListFiles (said_by now.entries) (files_in t.shards) → changes_told now.entries ≡ k.changes → t.frontiers ≡ frontiers_in (said_by now.entries) → LastsFor k found t e now
lasts_defined h k found s t d e told now lasts acks off keeps few tables said limits list shards accepted committed going behind files changes frontiers = record {
  keeps = keeps;
  tables = tables;
  shards = said ∙ lasts.shards ∙ ap (λ l. l.shards) (sym limits);
  few = few;
  ordered = still_in_order found s t list lasts.ordered;
  next = still_next found s t t.shards list (λ n x got. lasts.next n x (subst (λ (xs : List ShardState). slice_get xs n ≡ Some x) shards got));
  counted = omega (arith, lasts.counted, accepted, ap (λ (l : List (Item Event)). length (accepted_in l)) list);
  acknowledged = (omega (arith, lasts.acknowledged.0, acks, committed), omega (arith, lasts.acknowledged.1, acks, ap (λ (l : List (Item Event)). length (accepted_in l)) list));
  whole = λ on. let all = lasts.whole (going on) in omega (arith, all, committed, ap (λ (l : List (Item Event)). length (accepted_in l)) list);
  behind = behind;
  files = files;
  changes = changes;
  frontiers = frontiers;
  trimmed = λ on. absurd (not_both k.trimmed on off);
}

-- ---- how a definition ends

goes_nowhere : (r q : Reach) → q ≡ r → GoesOn r q
goes_nowhere r q same =
    subst (GoesOn r) (sym same) (record { segment = omega arith; segment_next = omega arith; manifest = omega arith; manifest_next = omega arith })

-- a fault that is kept now was kept before, or came of this
pub goes_before : {T : Type 0} (first kept : Option First) (before now : ℕ) (result : Result T JournalFault) → Ends first kept before now result
    → is_some kept ≡ false → is_some first ≡ false
goes_before None kept before now result ends on = refl
goes_before (Some first) kept before now result ends on = absurd (not_on (ap is_some (sym ends.1) ∙ on))
  where
    not_on : true ≡ false → ⊥
    not_on e = cc

module _ (x : ManifestEntry) (old new tables : List TableSchema) (kept : Option First) (before now : ℕ) (r q : Reach) (are : tables ≡ old)
    (short : length (entry_bytes x) < 2 ^ 32) (le : before ≤ now) (same : q ≡ r) (fs gs : Files) (reads reads_now last last_now live live_now : ℕ)
    (files : (gs ≡ fs) × (reads_now ≡ reads) × (last_now ≡ last) × (live_now ≡ live)) where
  -- how the disk stands before and after it
  abbrev stood : Option First → DiskState
  stood first = record { stopped = is_some first; faults = before; reach = r; files = fs; reads = reads; last_file = last; live = live }

  abbrev stands_now : DiskState
  stands_now = record { stopped = is_some kept; faults = now; reach = q; files = gs; reads = reads_now; last_file = last_now; live = live_now }

  pub defines_not : (first : Option First) (fault : JournalFault) → Ends {T = Unit {0}} first kept before now (Err fault)
      → ((what : Counted) (most : ℕ) → fault ≡ TooMany what most → HasNoPlace x r)
      → Defines x old new (stood first) (reply_for fault) tables stands_now
  defines_not None (TooLarge size most) ends full = absurd ends
  defines_not None (TooMany what most) ends full = (
    are,
    refl,
    short,
    full what most refl,
    (refl, record { stopped = ap is_some ends; faults = le; reach = goes_nowhere r q same; files = files }),
  )
  defines_not None (Stopped first) ends full = absurd ends
  defines_not None Failed ends full = (
    are,
    record { before = refl; stopped = ap is_some ends.1; faults = le; rose = ends.0; reach = goes_nowhere r q same; files = files },
  )
  defines_not None Mem ends full = (are, record { stopped = ap is_some ends; faults = le; reach = goes_nowhere r q same; files = files })
  defines_not (Some f) (TooLarge size most) ends full = absurd (cc ends.0)
  defines_not (Some f) (TooMany what most) ends full = absurd (cc ends.0)
  defines_not (Some f) (Stopped first) ends full = (
    are,
    (refl, record { stopped = ap is_some ends.1; faults = le; reach = goes_nowhere r q same; files = files }),
  )
  defines_not (Some f) Failed ends full = absurd (cc ends.0)
  defines_not (Some f) Mem ends full = absurd (cc ends.0)

pub defines_done : {T : Type 0} (x : ManifestEntry) (old new tables : List TableSchema) (first kept : Option First) (before now : ℕ) (r q : Reach) (fs gs : Files) (reads reads_now last last_now live live_now : ℕ)
    (given : T) → tables ≡ new → Ends first kept before now (Ok given) → before ≤ now → q ≡ record { segment = r.segment; manifest = r.manifest + room_of x }
    → (gs ≡ fs) × (reads_now ≡ reads) × (last_now ≡ last) × (live_now ≡ live)
    → Defines x old new (record { stopped = is_some first; faults = before; reach = r; files = fs; reads = reads; last_file = last; live = live }) reply.Done tables
    (record { stopped = is_some kept; faults = now; reach = q; files = gs; reads = reads_now; last_file = last_now; live = live_now })
defines_done x old new tables None kept before now r q fs gs reads reads_now last last_now live live_now given are ends le same files =
    (are, refl, record { stopped = ap is_some ends; faults = le; reach = same; files = files })
defines_done x old new tables (Some f) kept before now r q fs gs reads reads_now last last_now live live_now given are ends le same files = absurd (cc ends.0)

-- ---- what is said after it

same_shards : (said : Saying) (x : ManifestEntry) → IsDefinition x → (after said x).shards ≡ said.shards
same_shards said (entry.Schema t) is = refl
same_shards said (entry.AddColumns table columns) is = refl
same_shards said (entry.Store shards) is = absurd is
same_shards said (entry.NewSegment n) is = absurd is
same_shards said (entry.DropSegment n) is = absurd is
same_shards said (entry.Change c) is = absurd is

-- an entry that wasn't written changes nothing of what is said, and at most one may be there or not
pub record SaidStill (told now : Told) : Type 0 where
  pub entries : now.entries ≡ told.entries
  pub taken : now.taken ≡ told.taken
  pub few : length now.failed ≤ 1

pub said_still : (fault : JournalFault) (x : ManifestEntry) (told : Told) → length told.failed ≤ 1 → SaidStill told (told_after fault x told)
said_still (TooLarge size most) x told few = record { entries = refl; taken = refl; few = few }
said_still (TooMany what most) x told few = record { entries = refl; taken = refl; few = few }
said_still (Stopped first) x told few = record { entries = refl; taken = refl; few = few }
said_still Failed x told few = record { entries = refl; taken = refl; few = omega arith }
said_still Mem x told few = record { entries = refl; taken = refl; few = few }

lists_none : (x : ManifestEntry) → IsDefinition x → ListsNone x
lists_none (entry.Schema t) is = tt
lists_none (entry.AddColumns table columns) is = tt
lists_none (entry.Store shards) is = absurd is
lists_none (entry.NewSegment n) is = absurd is
lists_none (entry.DropSegment n) is = absurd is
lists_none (entry.Change c) is = absurd is

-- nothing had failed before a call that was done, or that failed first
begun : (first kept : Option First) (before now : ℕ) → Ends {T = Unit {0}} first kept before now (Ok tt) → first ≡ None
begun None kept before now ends = refl
begun (Some f) kept before now ends = absurd (cc ends.0)

failed_goes : (first kept : Option First) (before now : ℕ) → Ends {T = Unit {0}} first kept before now (Err Failed) → first ≡ None
failed_goes None kept before now ends = refl
failed_goes (Some f) kept before now ends = absurd (cc ends.0)

-- where nothing had failed, the manifest has the entry that was appended
may_appended : (x : ManifestEntry) (told : Told) (entries : List ManifestEntry) → told.failed ≡ [] → MayList (appended x told) entries → entries ≡ told.entries ++ x ∷ []
may_appended x told entries none (inl same) = same
may_appended x told entries none (inr more) = more ∙ ap (λ l. (told.entries ++ x ∷ []) ++ l) none ∙ append-nil (told.entries ++ x ∷ [])

-- ---- a store after a definition

-- all but the tables, the frontiers, the journal and the folder's count are as before
pub record IsRest (s t : State) : Type 0 where
  pub limits : t.limits ≡ s.limits
  pub shards : t.shards ≡ s.shards
  pub places : t.places ≡ s.places
  pub numbers : t.numbers ≡ s.numbers
  pub clock : t.clock ≡ s.clock
  pub list : t.list ≡ s.list
  pub session : t.session ≡ s.session
  pub calls : t.calls ≡ s.calls
  pub accepted : t.accepted ≡ s.accepted
  pub committed : t.committed ≡ s.committed
  pub reads : t.reads ≡ s.reads
  pub last_file : t.last_file ≡ s.last_file
  pub live : t.live ≡ s.live

-- where memory runs out before the room is asked nothing changes
pub moves_nowhere : (s : State) (d : Disk) (x : ManifestEntry) (b : Bound) → Moves (λ h after. Changes h x b (reply.Failed failure.Memory) after) s s d d
moves_nowhere s d x b h stands = (
  record h { trimmed = false },
  (h.tables, h.disk, (refl, record { stopped = refl; faults = omega arith; reach = goes_nowhere h.disk.reach h.disk.reach refl; files = (refl, refl, refl, refl) }), refl),
  record {
    stands = stands_untrimmed h s stands;
    lasts = λ found told lasts. (
      told,
      lasts_as h (record h { trimmed = false }) found s d told refl refl untrimmed lasts,
      λ openings explained.
          explains_still openings h (record h { trimmed = false }) found s s d d told (λ n. goes_further (shard_at h n)) refl refl (keep_files_none told d) (λ ms have. have) explained,
    );
  },
)

-- the same where the lists of its tables and of its frontiers got places more
pub moves_reserved : (s : State) (d : Disk) (x : ManifestEntry) (b : Bound) (ts : List TableSchema) (fs : List ℕ) → ts ≡ s.tables → fs ≡ s.frontiers
    → Moves (λ h after. Changes h x b (reply.Failed failure.Memory) after) s (record s { tables = ts; frontiers = fs }) d d
moves_reserved s d x b ts fs same still =
    subst (λ (us : List TableSchema). Moves (λ h after. Changes h x b (reply.Failed failure.Memory) after) s (record s { tables = us; frontiers = fs }) d d) (sym same)
    (subst (λ (gs : List ℕ). Moves (λ h after. Changes h x b (reply.Failed failure.Memory) after) s (record s { frontiers = gs }) d d) (sym still) (moves_nowhere s d x b))

module _ (s t : State) (d e : Disk) (x : ManifestEntry) (b : Bound) (may : MayBeTold s.tables b x) (some : IsShardCount s.limits.shards) (rest : IsRest s t)
    (count : s.faults ≤ t.faults) where
  tells : (h : History) (found : List Mutation) (told : Told) → LastsFor h found s d told → MayTell (said_by told.entries) x (tables_after s.tables b)
  tells h found told lasts = may.tells (said_by told.entries) lasts.tables (omega (arith, lasts.shards, some.0))

  -- what the manifest said isn't ahead of the store
  stays : (told : Told) → IsBehind (said_by told.entries) s.shards s.last_file s.live → IsBehind (said_by told.entries) t.shards t.last_file t.live
  stays told behind = still_behind (said_by told.entries) s t rest.shards rest.last_file rest.live behind

  -- nor are its files others
  lists_still : (told : Told) → ListFiles (said_by told.entries) (files_in s.shards) → ListFiles (said_by told.entries) (files_in t.shards)
  lists_still told are = list_same (said_by told.entries) (files_in s.shards) (files_in t.shards) (ap files_in rest.shards) are

  -- what a crash may leave explains it still
  goes_on : (openings : ℕ → ShardOpening) (h : History) (found : List Mutation) (now : Told) → During SameTables d e → Explains openings h found t d now
      → Explains openings (record h { tables = t.tables; trimmed = false; disk = disk_of t }) found t e now
  goes_on openings h found now during was =
      explains_still openings h (record h { tables = t.tables; trimmed = false; disk = disk_of t }) found t t d e now (λ n. goes_further (shard_at h n)) refl refl (keep_files now d e during) (λ ms have. have) was

  told_one : s.journal.first ≡ None → (openings : ℕ → ShardOpening) (h : History) (found : List Mutation) (told now : Told) → LastsFor h found s d told → IsDefinition x → FitsEntry (said_by told.entries) x
      → ((entries : List ManifestEntry) → MayList now entries → (entries ≡ told.entries) ⊎ (entries ≡ told.entries ++ x ∷ [])) → now.committed ≡ told.committed
      → now.taken ≡ told.taken → ((ms : List Mutation) → RememberAll s.tables ms s.shards → RememberAll t.tables ms s.shards) → Explains openings h found s d told
      → Explains openings h found t d now
  told_one going openings h found told now lasts is fits may_be committed taken memory was =
      let goes = lasts.keeps.lasts.goes going in
      explains_wider openings h found s t d told now x (lists_none x is) fits (said_few told.entries goes.manifest.follow) goes.fit lasts.keeps.has.dropped lasts.keeps.has.flushed lasts.keeps.has.all may_be
      committed taken (ap accepted_in rest.list)
      (λ ms have. subst (λ (xs : List ShardState). RememberAll t.tables ms xs) (sym rest.shards) (memory ms have)) was

  as_it_was : (openings : ℕ → ShardOpening) (h : History) (found : List Mutation) (told : Told) → ((ms : List Mutation) → RememberAll s.tables ms s.shards → RememberAll t.tables ms s.shards)
      → Explains openings h found s d told → Explains openings h found t d told
  as_it_was openings h found told memory was =
      explains_still openings h h found s t d d told (λ n. goes_further (shard_at h n)) refl (ap accepted_in rest.list) (keep_files_none told d)
      (λ ms have. subst (λ (xs : List ShardState). RememberAll t.tables ms xs) (sym rest.shards) (memory ms have)) was

  untold : (fault : JournalFault) → Ends {T = Unit {0}} s.journal.first t.journal.first s.faults t.faults (Err fault) → (openings : ℕ → ShardOpening) (h : History) (found : List Mutation)
      (told : Told) → LastsFor h found s d told → IsDefinition x → FitsEntry (said_by told.entries) x → ((ms : List Mutation) → RememberAll s.tables ms s.shards → RememberAll t.tables ms s.shards)
      → Explains openings h found s d told → Explains openings h found t d (told_after fault x told)
  untold (TooLarge size most) ends openings h found told lasts is fits memory was = as_it_was openings h found told memory was
  untold (TooMany what most) ends openings h found told lasts is fits memory was = as_it_was openings h found told memory was
  untold (Stopped first) ends openings h found told lasts is fits memory was = as_it_was openings h found told memory was
  untold Mem ends openings h found told lasts is fits memory was = as_it_was openings h found told memory was
  untold Failed ends openings h found told lasts is fits memory was =
      told_one (failed_goes s.journal.first t.journal.first s.faults t.faults ends) openings h found told (failed_at x told) lasts is fits (λ entries may. may) refl refl memory was

  pub moves_not : (answer : Reply) (fault : JournalFault) → During SameTables d e → IsDefinition x → answer ≡ reply_for fault → t.tables ≡ s.tables → length (entry_bytes x) < 2 ^ 32 → Ends {T = Unit {0}} s.journal.first t.journal.first s.faults t.faults (Err fault)
      → reach_of t.journal ≡ reach_of s.journal → ((what : Counted) (most : ℕ) → fault ≡ TooMany what most → HasNoPlace x (reach_of s.journal))
      → ((found : List Mutation) (told : Told) → Keeps s.journal d s.list s.committed found told → FitsEntry (said_by told.entries) x
      → Keeps t.journal e t.list t.committed found (told_after fault x told)) → t.frontiers ≡ s.frontiers
      → Moves (λ h after. Changes h x b answer after) s t d e
  moves_not answer fault during defines is same short ends reach full kept frontiers h stands = (
    record h { tables = t.tables; trimmed = false; disk = disk_of t },
    (
      t.tables,
      disk_of t,
      subst (λ (k : DiskState). Defines x h.tables (tables_after h.tables b) k answer t.tables (disk_of t)) (sym stands.disk)
          (subst (λ (k : Reply). Defines x h.tables (tables_after h.tables b) (disk_of s) k t.tables (disk_of t)) (sym is)
          (defines_not x h.tables (tables_after h.tables b) t.tables t.journal.first s.faults t.faults (reach_of s.journal) (reach_of t.journal) (same ∙ sym stands.tables) short count reach
          (files_in s.shards) (files_in t.shards) s.reads t.reads s.last_file t.last_file s.live t.live
          (ap files_in rest.shards, rest.reads, rest.last_file, rest.live) s.journal.first fault ends full)),
      refl,
    ),
    record {
      stands =
          stands_defined h s t stands rest.limits rest.clock rest.session rest.calls rest.list rest.shards
          (λ z y. subst (λ (ts : List TableSchema). Stands ts z y) (stands.tables ∙ sym same))
          (subst (λ (ts : List TableSchema). RememberJust ts h.unflushed s.shards) (sym same) stands.memory);
      lasts = λ found told lasts.
          let still = said_still fault x told lasts.few in (
            told_after fault x told,
            lasts_defined h (record h { tables = t.tables; trimmed = false; disk = disk_of t }) found s t d e told (told_after fault x told) lasts refl refl
                (kept found told lasts.keeps (tells h found told lasts).fits) still.few (ap (λ es. (said_by es).tables) still.entries ∙ lasts.tables ∙ sym same)
                (ap (λ es. (said_by es).shards) still.entries) rest.limits rest.list rest.shards rest.accepted rest.committed
                (goes_before {T = Unit {0}} s.journal.first t.journal.first s.faults t.faults (Err fault) ends)
                (subst (λ es. IsBehind (said_by es) t.shards t.last_file t.live) (sym still.entries) (stays told lasts.behind))
                (subst (λ es. ListFiles (said_by es) (files_in t.shards)) (sym still.entries) (lists_still told lasts.files))
                (ap changes_told still.entries ∙ lasts.changes) (frontiers ∙ lasts.frontiers ∙ ap (λ es. frontiers_in (said_by es)) (sym still.entries)),
            λ openings explained.
                goes_on openings h found (told_after fault x told) during
                (untold fault ends openings h found told lasts defines (tells h found told lasts).fits (λ ms have. subst (λ (ts : List TableSchema). RememberAll ts ms s.shards) (sym same) have) explained),
          );
    },
  )

  pub moves_done : During SameTables d e → IsDefinition x → t.tables ≡ tables_after s.tables b → ((z : ShardHistory) (y : ShardState) → Stands s.tables z y → Stands t.tables z y)
      → ((ws : ℕ → ℕ → List Mutation) → RememberJust s.tables ws s.shards → RememberJust t.tables ws s.shards) → ((ms : List Mutation) → RememberAll s.tables ms s.shards → RememberAll t.tables ms s.shards)
      → Ends {T = Unit {0}} s.journal.first t.journal.first s.faults t.faults (Ok tt)
      → reach_of t.journal ≡ record { segment = (reach_of s.journal).segment; manifest = (reach_of s.journal).manifest + room_of x }
      → ((found : List Mutation) (told : Told) → Keeps s.journal d s.list s.committed found told → FitsEntry (said_by told.entries) x
      → Keeps t.journal e t.list t.committed found (appended x told))
      → ((said : Saying) → s.frontiers ≡ frontiers_in said → s.limits.shards ≡ said.shards → t.frontiers ≡ frontiers_in (after said x))
      → Moves (λ h after. Changes h x b reply.Done after) s t d e
  moves_done during is new under remembers all ends reach kept frontiers h stands = (
    record h { tables = t.tables; trimmed = false; disk = disk_of t },
    (
      t.tables,
      disk_of t,
      subst (λ (k : DiskState). Defines x h.tables (tables_after h.tables b) k reply.Done t.tables (disk_of t)) (sym stands.disk)
          (defines_done x h.tables (tables_after h.tables b) t.tables s.journal.first t.journal.first s.faults t.faults (reach_of s.journal) (reach_of t.journal)
          (files_in s.shards) (files_in t.shards) s.reads t.reads s.last_file t.last_file s.live t.live tt (new ∙ ap (λ (ts : List TableSchema). tables_after ts b) (sym stands.tables)) ends count reach
          (ap files_in rest.shards, rest.reads, rest.last_file, rest.live)),
      refl,
    ),
    record {
      stands =
          stands_defined h s t stands rest.limits rest.clock rest.session rest.calls rest.list rest.shards
          (λ z y so. under z y (subst (λ (ts : List TableSchema). Stands ts z y) stands.tables so)) (remembers h.unflushed stands.memory);
      lasts = λ found told lasts.
          let more = tells h found told lasts in
          let said = said_more told.entries x in (
            appended x told,
            lasts_defined h (record h { tables = t.tables; trimmed = false; disk = disk_of t }) found s t d e told (appended x told) lasts refl refl
                (kept found told lasts.keeps more.fits) lasts.few (ap (λ (sy : Saying). sy.tables) said ∙ more.tells ∙ sym new)
                (ap (λ (sy : Saying). sy.shards) said ∙ same_shards (said_by told.entries) x is) rest.limits rest.list rest.shards rest.accepted rest.committed
                (goes_before s.journal.first t.journal.first s.faults t.faults (Ok tt) ends)
                (subst (λ (sy : Saying). IsBehind sy t.shards t.last_file t.live) (sym said)
                (behind_defined (said_by told.entries) x t.shards t.last_file t.live is (stays told lasts.behind)))
                (subst (λ (sy : Saying). ListFiles sy (files_in t.shards)) (sym said)
                (list_defined (said_by told.entries) x (files_in t.shards) is (lists_still told lasts.files)))
                (told_defined told.entries x is ∙ lasts.changes) (frontiers (said_by told.entries) lasts.frontiers (sym lasts.shards) ∙ ap frontiers_in (sym said)),
            λ openings explained.
                let going = begun s.journal.first t.journal.first s.faults t.faults ends in
                goes_on openings h found (appended x told) during
                (told_one going openings h found told (appended x told) lasts is more.fits
                (λ entries may. inr (may_appended x told entries (lasts.keeps.lasts.goes going).none_failed may)) refl refl all explained),
          );
    },
  )
