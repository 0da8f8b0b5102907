-- A store's memory stands for the history after a step.
use Rattle.std.proofs.Common.{◌≡◌, ◌≢◌, ◌<◌, ◌+◌, ⊎_elim, ◌==◌, ◌≤◌, ℕ, ℤ, Bool, true, false, List, [], ◌∷◌, ◌++◌, length, Some, refl, sym, ap, ◌∙◌, subst, append-nil, arith}
use Rattle.std.specs.Prelude.{slice_set, slice_get, if◌then◌else◌}
use Rattle.std.proofs.lemmas.List.{flat_map_more}
use Rattle.std.proofs.lemmas.Option.{same_Some}
use Rattle.cas_atoms.specs.declared.atom.Mutation.{Mutation}
use Rattle.cas_history.specs.declared.item.Item.{Item}
use Rattle.cas_history.specs.declared.item.Item.TheVariants.{Wrote}
use Rattle.cas_room.specs.declared.event.Event.{Event}
use Rattle.cas_room.specs.declared.event.Event.TheVariants as event
use Rattle.cas_shard.specs.declared.entry.Entry.{Entry}
use Rattle.cas_shard.specs.declared.entry.Entry.TheVariants as entry
use Rattle.cas_bind.specs.declared.bound.BoundRead.{BoundRead}
use Rattle.cas_disk.specs.Disk.{Disk}
use Rattle.cas_render.specs.declared.reply.Reply.{Reply}
use Rattle.cas_render.specs.declared.reply.Reply.TheVariants as reply
use Rattle.cas_room.specs.Keeping.{Keeps}
use Rattle.cas_sstread.specs.Loading.{Held}
use Rattle.cas_view.specs.Views.{File}
use Rattle.cas_types.specs.declared.schema.TableSchema.{TableSchema}
use Rattle.cas_shard.specs.Flushing.{KeepsBytes, bytes_at}
use Rattle.cas_shard.specs.Shards.{ShardHistory, found_shard, empty_shard, look_at, raised}
use Rattle.cas_shard.specs.declared.answers.Look.{Look}
use Rattle.cas_shard.specs.Stands.{KeepsFiles, ShardState, Stands, files_at}
use Rattle.cas_lasting.proofs.Explaining.{explains_still, further_at, keep_files_none, raised_further}
use Rattle.cas_lasting.proofs.Remembering.{all_still, just_still, same_just}
use Rattle.cas_lasting.specs.History.{DiskState, History, ReadsAt, Shows, after_entries, after_read, after_write, rows_reply, shard_at, with_filled, with_shard, with_unflushed}
use Rattle.cas_lasting.specs.Entered.{entries_in, entry_in}
use Rattle.cas_lasting.specs.Nodes.{AreFilled, RememberJust, State, StandsFor, disk_of, files_of, Moves}
use Rattle.cas_lasting.proofs.Filing.{files_still}
use Rattle.cas_lasting.proofs.Filled.{filled_still}
use Rattle.cas_lasting.proofs.Lasting.{lasts_still}
use Rattle.cas_recovery.proofs.Places.{same_place, length_set, get_here, get_other, get_within, index_here, index_other, is_same, is_other}

-- ---- entries

-- the entries of a shard with these behind them, if they are of it
abbrev pub with_entries : ℕ → ℕ → List Entry → List Entry → List Entry
with_entries n k new old = old ++ (if n == k then new else [])

pub none_more : (n k : ℕ) (old : List Entry) → old ≡ with_entries n k [] old
none_more n k old = by (n == k)
  where
    by : (b : Bool) → old ≡ old ++ (if b then [] else [])
    by true = sym (append-nil old)
    by false = sym (append-nil old)

pub one_more : (list : List (Item Event)) (m : Mutation) (session call k : ℕ)
    → entries_in k (list ++ Wrote m.shard session call m.number (event.Accepted m) ∷ []) ≡ with_entries m.shard k (entry.Wrote session call m ∷ []) (entries_in k list)
one_more list m session call k = sym (flat_map_more (entry_in k) [] list (Wrote m.shard session call m.number (event.Accepted m)))

-- a look and a write that entered nothing
pub raised_is : (reading : ℤ) (s : ShardHistory) → raised reading s ≡ after_entries reading [] s
raised_is reading s = ap (λ es. record (raised reading s) { entries = es }) (sym (append-nil s.entries))

-- ---- a step in one shard

module _ (h : History) (s t : State) (n : ℕ) (x y : ShardState) (reading : ℤ) (new : List Entry) (stands : StandsFor h s) (there : slice_get s.shards n ≡ Some x)
    (shards : t.shards ≡ slice_set s.shards n y) (stands_new : Stands h.tables (after_entries reading new (shard_at h n)) y)
    (entered : (k : ℕ) → entries_in k t.list ≡ with_entries n k new (entries_in k s.list)) where
  abbrev after : History
  after = with_shard h n (after_entries reading new (shard_at h n))

  within : n < length h.shards
  within = subst (λ (k : ℕ). n < k) (sym stands.count) (get_within s.shards n x there)

  at_here : shard_at after n ≡ after_entries reading new (shard_at h n)
  at_here = index_here h.shards n _ (found_shard empty_shard) within

  at_other : (k : ℕ) → k ≢ n → shard_at after k ≡ shard_at h k
  at_other k other = index_other h.shards n k _ (found_shard empty_shard) other

  pub shards_stand : (k : ℕ) (z : ShardState) → slice_get t.shards k ≡ Some z → Stands h.tables (shard_at after k) z
  shards_stand k z got = ⊎_elim here elsewhere (same_place k n)
    where
      got_set : slice_get (slice_set s.shards n y) k ≡ Some z
      got_set = subst (λ (xs : List ShardState). slice_get xs k ≡ Some z) shards got

      here : k ≡ n → Stands h.tables (shard_at after k) z
      here e =
          let at_k : slice_get (slice_set s.shards n y) k ≡ Some y =
          subst (λ (j : ℕ). slice_get (slice_set s.shards n y) j ≡ Some y) (sym e) (get_here s.shards n x y there) in
          let same : y ≡ z = same_Some y z (sym at_k ∙ got_set) in
          subst (λ (j : ℕ). Stands h.tables (shard_at after j) z) (sym e)
          (subst (λ (q : ShardHistory). Stands h.tables q z) (sym at_here) (subst (λ (w : ShardState). Stands h.tables (after_entries reading new (shard_at h n)) w) same stands_new))

      elsewhere : k ≢ n → Stands h.tables (shard_at after k) z
      elsewhere other = subst (λ (q : ShardHistory). Stands h.tables q z) (sym (at_other k other)) (stands.shards k z (sym (get_other s.shards n k y other) ∙ got_set))

  pub are_entered : (k : ℕ) → k < length after.shards → (shard_at after k).entries ≡ entries_in k t.list
  are_entered k lt = ⊎_elim here elsewhere (same_place k n)
    where
      few : k < length h.shards
      few = subst (λ (j : ℕ). k < j) (length_set h.shards n _) lt

      here : k ≡ n → (shard_at after k).entries ≡ entries_in k t.list
      here e =
          let told : (shard_at after n).entries ≡ entries_in n t.list =
          ap (λ (q : ShardHistory). q.entries) at_here ∙ ap (λ (es : List Entry). es ++ new) (stands.entered n within)
          ∙ sym (entered n ∙ ap (λ (b : Bool). entries_in n s.list ++ (if b then new else [])) (is_same n)) in
          subst (λ (j : ℕ). (shard_at after j).entries ≡ entries_in j t.list) (sym e) told

      elsewhere : k ≢ n → (shard_at after k).entries ≡ entries_in k t.list
      elsewhere other =
          ap (λ (q : ShardHistory). q.entries) (at_other k other) ∙ stands.entered k few
          ∙ sym (entered k ∙ ap (λ (b : Bool). entries_in k s.list ++ (if b then new else [])) (is_other n k other) ∙ append-nil (entries_in k s.list))

  pub still_many : length after.shards ≡ length t.shards
  still_many = length_set h.shards n _ ∙ stands.count ∙ sym (length_set s.shards n y) ∙ ap length (sym shards)

  pub stands_write : RememberJust s.tables (with_unflushed n new h.unflushed) (slice_set s.shards n y) → AreFilled (with_filled n new h.filled) (slice_set s.shards n y) → (r : Reply)
      → t.limits ≡ s.limits → t.tables ≡ s.tables → t.clock ≡ s.clock → t.session ≡ s.session → t.calls ≡ s.calls + length new
      → StandsFor (after_write h n reading r new (disk_of t)) t
  stands_write remembers full r limits tables clock session calls = record {
    limits = stands.limits ∙ sym limits;
    tables = stands.tables ∙ sym tables;
    clock = stands.clock ∙ sym clock;
    session = stands.session ∙ sym session;
    calls = ap (λ (k : ℕ). k + length new) stands.calls ∙ sym calls;
    disk = refl;
    count = still_many;
    shards = shards_stand;
    entered = are_entered;
    memory =
        subst (λ (ts : List TableSchema). RememberJust ts (with_unflushed n new h.unflushed) t.shards) (sym tables)
        (subst (RememberJust s.tables (with_unflushed n new h.unflushed)) (sym shards) remembers);
    filled = subst (AreFilled (with_filled n new h.filled)) (sym shards) full;
  }

  pub stands_read : RememberJust s.tables h.unflushed (slice_set s.shards n y) → KeepsBytes x y → t.limits ≡ s.limits → t.tables ≡ s.tables → t.clock ≡ s.clock → t.session ≡ s.session → t.calls ≡ s.calls
      → disk_of t ≡ record (disk_of s) { reads = t.reads } → StandsFor (record after { disk = record h.disk { reads = t.reads } }) t
  stands_read remembers bytes limits tables clock session calls disk = record {
    limits = stands.limits ∙ sym limits;
    tables = stands.tables ∙ sym tables;
    clock = stands.clock ∙ sym clock;
    session = stands.session ∙ sym session;
    calls = stands.calls ∙ sym calls;
    disk = ap (λ (d : DiskState). record d { reads = t.reads }) stands.disk ∙ sym disk;
    count = still_many;
    shards = shards_stand;
    entered = are_entered;
    memory =
        subst (λ (ts : List TableSchema). RememberJust ts h.unflushed t.shards) (sym tables)
        (subst (RememberJust s.tables h.unflushed) (sym shards) remembers);
    filled = subst (AreFilled h.filled) (sym shards) (filled_still h.filled s.shards n x y there stands.filled bytes);
  }

-- ---- a SELECT

pub shows_rows : (s : ShardHistory) (reading at : ℤ) (q : BoundRead) (l : Look) → at ≡ l.now → l ≡ look_at reading s q.query
    → reply.Rows l.rows q.shard l.front at ≡ rows_reply q.shard (look_at reading s q.query)
shows_rows s reading at q l same is = ap (λ (n : ℤ). reply.Rows l.rows q.shard l.front n) same ∙ ap (rows_reply q.shard) is

-- the store whose shard of that number is now this, and of whose table files so many reads had failed
abbrev pub with_looked : State → ℕ → ShardState → ℕ → State
with_looked s n y reads = record s { shards = slice_set s.shards n y; reads = reads }

pub moves_look : (s : State) (d : Disk) (q : BoundRead) (x y : ShardState) (reading : ℤ) (reads : ℕ) (r : Reply) → slice_get s.shards q.shard ≡ Some x → y.number ≡ x.number
    → KeepsFiles x y → s.reads ≤ reads → ((ts : List TableSchema) (z : ShardHistory) → Stands ts z x → Stands ts (raised reading z) y)
    → ((z : ShardHistory) → Stands s.tables z x → Shows (files_at (slice_get x.stores q.query.table)) s.reads reads z reading q r)
    → y.stores ≡ x.stores → Moves (λ h after. ReadsAt h reading q r after) s (with_looked s q.shard y reads) d d
moves_look s d q x y reading reads r there number keeps more raises shows stores h stands =
    let one : Stands h.tables (shard_at h q.shard) x = stands.shards q.shard x there in
    let still : Stands h.tables (after_entries reading [] (shard_at h q.shard)) y =
    subst (λ (z : ShardHistory). Stands h.tables z y) (raised_is reading (shard_at h q.shard)) (raises h.tables (shard_at h q.shard) one) in
    let files : h.disk.files q.shard q.query.table ≡ files_at (slice_get x.stores q.query.table) =
    ap (λ (e : DiskState). e.files q.shard q.query.table) stands.disk ∙ ap (λ o. files_of o q.query.table) there in
    let before : h.disk.reads ≡ s.reads = ap (λ (e : DiskState). e.reads) stands.disk in
    let shown : Shows (files_at (slice_get x.stores q.query.table)) s.reads reads (shard_at h q.shard) reading q r =
    shows (shard_at h q.shard) (subst (λ (ts : List TableSchema). Stands ts (shard_at h q.shard) x) stands.tables one) in
    let disk : disk_of (with_looked s q.shard y reads) ≡ record (disk_of s) { reads = reads } =
    ap (λ fs. record (disk_of s) { files = fs; reads = reads }) (files_still s.shards q.shard x y there keeps) in (
      after_read h q.shard reading reads,
      (
        reads,
        omega (arith, before, more),
        subst (λ (fs : List (File Held)). Shows fs h.disk.reads reads (shard_at h q.shard) reading q r) (sym files)
            (subst (λ (k : ℕ). Shows (files_at (slice_get x.stores q.query.table)) k reads (shard_at h q.shard) reading q r) (sym before) shown),
        refl,
      ),
      record {
        stands = stands_read h s (with_looked s q.shard y reads) q.shard x y reading [] stands there refl still (λ k. none_more q.shard k (entries_in k s.list))
            (just_still s.tables h.unflushed s.shards q.shard x y there (same_just s.tables x y stores) stands.memory)
            (λ n. ap (λ ps. bytes_at (slice_get ps n)) stores) refl refl refl refl refl disk;
        lasts = λ found told lasts. (
          told,
          lasts_still h (after_read h q.shard reading reads) found s (with_looked s q.shard y reads) d d told q.shard x y refl refl there refl number
              (λ l same c count keeps.
              subst (λ (ls : List (Item Event)). Keeps s.journal d ls c found told) (sym same) (subst (λ (k : ℕ). Keeps s.journal d s.list k found told) (sym count) keeps))
              refl refl refl refl refl (λ on. on) refl refl (files_still s.shards q.shard x y there keeps) refl (λ on. (on, λ off. off)) lasts,
          λ openings explained. explains_still openings h (after_read h q.shard reading reads) found s (with_looked s q.shard y reads) d d told
              (further_at h q.shard (after_entries reading [] (shard_at h q.shard)) (subst (λ (k : ℕ). q.shard < k) (sym stands.count) (get_within s.shards q.shard x there))
              (raised_further reading (shard_at h q.shard)))
              (length_set h.shards q.shard (after_entries reading [] (shard_at h q.shard))) refl (keep_files_none told d)
              (λ ms have. all_still s.tables s.shards q.shard x y ms there (same_just s.tables x y stores) have) explained,
        );
      },
    )
