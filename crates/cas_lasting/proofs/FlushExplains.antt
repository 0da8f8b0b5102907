-- What a crash may leave explains the history still, where the manifest gets the change of a flush, or where that fails.
use Rattle.std.proofs.Common.{◌≡◌, ◌≢◌, ◌⊎◌, inl, inr, ⊎_elim, ◌∙◌, ◌≤◌, ◌<◌, ◌+◌, ◌*◌, ℕ, None, Some, List, [], ◌∷◌, ◌++◌, length, refl, sym, ap, subst, append-nil, take, arith}
use Rattle.std.specs.Prelude.{slice_get}
use Rattle.std.proofs.lemmas.Int.{clamps, ints}
use Rattle.std.proofs.lemmas.List.{take_all}
use Rattle.std.proofs.lemmas.Option.{same_Some}
use Rattle.cas_types.specs.declared.schema.TableSchema.{TableSchema}
use Rattle.cas_disk.specs.Disk.{Disk, During, Image}
use Rattle.cas_disk.specs.declared.name.Name.TheVariants.{Table as table_name}
use Rattle.cas_disk.proofs.Moments.{left_after}
use Rattle.cas_atoms.specs.declared.atom.Mutation.{Mutation}
use Rattle.cas_changes.specs.Saying.{Saying, change_after, said_by}
use Rattle.cas_changes.specs.declared.entry.Change.{Change}
use Rattle.cas_changes.specs.declared.entry.Entry.{Entry as ManifestEntry}
use Rattle.cas_changes.specs.declared.entry.Entry.TheVariants.{Change as change_entry}
use Rattle.cas_flushing.proofs.Files.{flush_stands}
use Rattle.cas_info.specs.declared.info.TableInfo.{TableInfo}
use Rattle.cas_journal.specs.Ends.{told_after}
use Rattle.cas_journal.specs.Stores.{MayList, SameTables, Told, appended, committed_all, failed_at}
use Rattle.cas_journal.specs.declared.fault.JournalFault.{JournalFault}
use Rattle.cas_journal.specs.declared.fault.JournalFault.TheVariants.{TooLarge, TooMany, Stopped, Failed, Mem}
use Rattle.cas_listed.specs.Listed.{StandIn}
use Rattle.cas_manifest.proofs.Appends.{said_more}
use Rattle.cas_memtable.specs.Kept.{HoldJust}
use Rattle.cas_replay.specs.Grammar.{AscendByOne, numbers_of}
use Rattle.cas_room.specs.Changing.{MayBeTold}
use Rattle.cas_room.specs.Rooms.{accepted_in}
use Rattle.cas_shard.specs.Flushing.{bytes_at, memtables_at}
use Rattle.cas_shard.specs.Stands.{SaySame, ShardState, Stands, mutations_of}
use Rattle.cas_shard.specs.declared.entry.ShardOpening.{ShardOpening}
use Rattle.cas_recovery.specs.Found.{found_in}
use Rattle.cas_recovery.specs.Openings.{IsOpening, unflushed_of}
use Rattle.cas_recovery.specs.Restored.{RememberAll, RemembersJust}
use Rattle.cas_recovery.proofs.Places.{get_within}
use Rattle.cas_lasting.specs.Explained.{IsNotAhead, OpensIn, as_told, only, with_more}
use Rattle.cas_lasting.specs.History.{History, shard_at}
use Rattle.cas_lasting.specs.Inner.Going.{AreStood, IsChangeFor, StandsSo}
use Rattle.cas_lasting.specs.Nodes.{Explains, LastsFor, State}
use Rattle.cas_lasting.proofs.Changed.{IsFlushed, file_alike, has_times, no_log, opening_changed, other_log, same_log}
use Rattle.cas_lasting.proofs.Explaining.{explains_still, goes_nowhere, keep_files, opening_in}
use Rattle.cas_lasting.proofs.Parts.{has_parts}

-- the change of a flush of a table in a shard, whose file stands in whatever a crash leaves, and says what is frozen, which is all that memory has
module _ (openings : ℕ → ShardOpening) (h : History) (found : List Mutation) (s u : State) (d e : Disk) (was : Told) (c : Change) (t : TableSchema) (x : ShardState) (n : ℕ)
    (told : TableInfo) (lasts : LastsFor h found s d was) (going : s.journal.first ≡ None) (is : IsChangeFor t.number n told x c) (table : slice_get s.tables t.number ≡ Some t)
    (there : slice_get s.shards n ≡ Some x) (many : length s.shards ≡ s.limits.shards) (none : bytes_at (slice_get x.stores t.number) ≡ 0)
    (left : StandsSo t n told (slice_get x.stores t.number) d) (during : During SameTables d e) (stood : AreStood h s) (list : u.list ≡ s.list)
    (explained : Explains openings h found s d was) where
  abbrev said : Saying
  said = said_by was.entries

  abbrev all : List Mutation
  all = accepted_in s.list

  parts : length said.parts ≡ length said.tables * said.shards
  parts = (has_parts was.entries (lasts.keeps.lasts.goes going).manifest.follow).many

  none_failed : was.failed ≡ []
  none_failed = (lasts.keeps.lasts.goes going).none_failed

  within : n < said.shards
  within = omega (arith, get_within s.shards n x there, many, lasts.shards)

  shard_low : c.shard < said.shards
  shard_low = subst (λ k. k < said.shards) (sym is.of_shard) within

  table_low : c.table < length said.tables
  table_low =
      subst (λ k. k < length said.tables) (sym is.of_table)
      (subst (λ (ts : List TableSchema). t.number < length ts) (sym lasts.tables) (get_within s.tables t.number t table))

  history_low : n < length h.shards
  history_low = subst (λ k. n < k) (sym stood.count) (get_within s.shards n x there)

  one : Stands h.tables (shard_at h n) x
  one = stood.shards n x there

  -- ---- in an image

  -- where it is of this shard
  flushed : (b i : Image) → d.may_leave b → ((k : ℕ) → i (table_name k) ≡ b (table_name k)) → (k : ℕ) → k ≡ c.shard
      → IsFlushed said c told (found ++ all) i k (with_more k all (openings k))
  flushed b i before same k here =
      let at : k ≡ n = here ∙ is.of_shard in
      subst (λ j. IsFlushed said c told (found ++ all) i j (with_more j all (openings j))) (sym at) (record {
        frontier = is.frontier.0 ∙ one.number ∙ sym behind.number;
        drawn = omega (arith, ints, clamps, is.drawn.0, one.drawn, behind.drawn);
        moment = omega (arith, ints, is.moment.0, one.moment, behind.moment);
        new = λ v at_v. new v (same_Some v t (sym at_v ∙ there_now));
      })
    where
      behind : IsNotAhead (shard_at h n) (with_more n all (openings n))
      behind = explained.behind n history_low

      there_now : slice_get said.tables c.table ≡ Some t
      there_now = (λ j. slice_get (lasts.tables j) (is.of_table j)) ∙ table

      ws : List Mutation
      ws = mutations_of t.number (found_in n (unflushed_of said (found ++ all))).entries

      just : HoldJust t.columns (memtables_at (slice_get x.stores t.number)) ws
      just = explained.memory n t.number x there [] t (ap (λ (ts : List TableSchema). slice_get ts t.number) (append-nil s.tables) ∙ table)

      new : (v : TableSchema) → v ≡ t
          → (vs : List Mutation) × StandIn v c.shard i told vs × SaySame vs (mutations_of c.table (found_in n (unflushed_of said (found ++ all))).entries)
      new v same_v =
          let (vs, stand, says) = left ws just b before in
          let same_ws : SaySame vs ws = (flush_stands (λ (k : ℕ). k) (λ k bytes. Unit {0})).memory t.columns (slice_get x.stores t.number) vs ws none just says in (
            vs,
            subst (λ (w : TableSchema). StandIn w c.shard i told vs) (sym same_v)
                (subst (λ j. StandIn t j i told vs) (sym is.of_shard) (file_alike t n b i told vs (same told.number) stand)),
            subst (λ l. SaySame vs l)
                (sym (ap (λ (k : ℕ). mutations_of k (found_in n (unflushed_of said (found ++ all))).entries) is.of_table)) same_ws,
          )

  with_change : (b i : Image) → d.may_leave b → ((k : ℕ) → i (table_name k) ≡ b (table_name k)) → (k : ℕ) → k < said.shards → OpensIn found all was.entries b k (openings k)
      → OpensIn found all (was.entries ++ change_entry c ∷ []) i k (openings k)
  with_change b i before same k low base =
      subst (λ (v : Saying). IsOpening v (found ++ all) (only i) k (as_told v k (with_more k all (openings k)))) (sym (said_more was.entries (change_entry c)))
      (opening_changed said c told parts (has_times was.entries) table_low shard_low is.removed is.added (found ++ all) b i (λ number listed. same number) k low
      (with_more k all (openings k)) base (flushed b i before same k))

  from_before : (i : Image) → e.may_leave i → (b : Image) × d.may_leave b × ((k : ℕ) → i (table_name k) ≡ b (table_name k))
  from_before i leaves = ⊎_elim (λ before. (i, before, λ k. refl)) (λ made. made) (left_after SameTables d e during i leaves)

  -- all is committed, and the change is told, or may be
  explains_change : (now : Told) → ((entries : List ManifestEntry) → MayList now entries → (entries ≡ was.entries) ⊎ (entries ≡ was.entries ++ change_entry c ∷ []))
      → now.committed ≡ length was.taken → now.taken ≡ was.taken → RememberAll u.tables (unflushed_of (said_by now.entries) (found ++ all)) u.shards → Explains openings h found u e now
  explains_change now may_be committed taken memory = record {
    behind = λ k low. subst (λ l. IsNotAhead (shard_at h k) (with_more k (accepted_in l) (openings k))) (sym list) (explained.behind k low);
    opens = λ i leaves entries may count least most k low.
        let whole : length all ≤ count =
        omega (arith, least, committed, ap length taken, ap (λ l. length (accepted_in l)) list) in
        let (b, before, same) = from_before i leaves in
        subst (λ ms. OpensIn found ms entries i k (openings k)) (sym (ap (λ l. take count (accepted_in l)) list ∙ take_all count all whole))
        (by b i before same entries (may_be entries may) k low);
    memory = subst (λ l. RememberAll u.tables (unflushed_of (said_by now.entries) (found ++ accepted_in l)) u.shards) (sym list) memory;
  }
    where
      by : (b i : Image) → d.may_leave b → ((k : ℕ) → i (table_name k) ≡ b (table_name k)) → (entries : List ManifestEntry)
          → (entries ≡ was.entries) ⊎ (entries ≡ was.entries ++ change_entry c ∷ []) → (k : ℕ) → k < (said_by entries).shards → OpensIn found all entries i k (openings k)
      by b i before same entries entries_are k low = of entries_are
        where
          base : k < said.shards → OpensIn found all was.entries b k (openings k)
          base few =
              let holds = lasts.keeps.lasts.holds b before in
              subst (λ ms. OpensIn found ms was.entries b k (openings k)) (take_all (length all) all (omega arith))
              (explained.opens b before was.entries (inl refl) (length all) (omega (arith, holds.least, holds.most)) (omega arith) k few)

          of : (entries ≡ was.entries) ⊎ (entries ≡ was.entries ++ change_entry c ∷ []) → OpensIn found all entries i k (openings k)
          of (inl still) =
              let few : k < said.shards = subst (λ es. k < (said_by es).shards) still low in
              subst (λ es. OpensIn found all es i k (openings k)) (sym still)
              (opening_in said (found ++ all) (only b) b i k (as_told said k (with_more k all (openings k))) few (λ j. refl) (λ number listed. same number) (base few))
          of (inr more) =
              let few : k < said.shards = subst (λ j. k < j) (ap (λ es. (said_by es).shards) more ∙ ap (λ (v : Saying). v.shards) (said_more was.entries (change_entry c))) low in
              subst (λ es. OpensIn found all es i k (openings k)) (sym more) (with_change b i before same k few (base few))

  -- ---- memory

  -- the shard has none of the table then, and what it had of the others; so have the other shards of all
  memory_then : (y : ShardState) (m_tables : List TableSchema) → m_tables ≡ s.tables
      → ((k : ℕ) (z : ShardState) → slice_get u.shards k ≡ Some z → ((k ≡ n) × (y ≡ z)) ⊎ ((k ≢ n) × (slice_get s.shards k ≡ Some z)))
      → ((k : ℕ) (ws : List Mutation) → RemembersJust s.tables k ws x → ((k ≡ t.number) × RemembersJust s.tables k [] y) ⊎ ((k ≢ t.number) × RemembersJust s.tables k ws y))
      → RememberAll m_tables (unflushed_of (change_after said c) (found ++ all)) u.shards
  memory_then y m_tables tables each swapped k j z got =
      subst (λ (ts : List TableSchema). RemembersJust ts j (mutations_of j (found_in k (unflushed_of (change_after said c) (found ++ all))).entries) z) (sym tables) (by (each k z got))
    where
      ends : AscendByOne (numbers_of n (found ++ all) ++ (x.number + 1) ∷ [])
      ends = lasts.next n x there

      here : (j ≡ t.number) × RemembersJust s.tables j [] y ⊎ (j ≢ t.number) × RemembersJust s.tables j (mutations_of j (found_in n (unflushed_of said (found ++ all))).entries) y
          → RemembersJust s.tables j (mutations_of j (found_in c.shard (unflushed_of (change_after said c) (found ++ all))).entries) y
      here (inl (of_it, empty)) =
          subst (λ ms. RemembersJust s.tables j ms y)
          (sym (ap (λ i. mutations_of i (found_in c.shard (unflushed_of (change_after said c) (found ++ all))).entries) (of_it ∙ sym is.of_table)
          ∙ no_log said c parts table_low shard_low (found ++ all) x.number is.frontier.0 (subst (λ i. AscendByOne (numbers_of i (found ++ all) ++ (x.number + 1) ∷ [])) (sym is.of_shard) ends))) empty
      here (inr (other, has)) =
          subst (λ ms. RemembersJust s.tables j ms y)
          (ap (λ i. mutations_of j (found_in i (unflushed_of said (found ++ all))).entries) (sym is.of_shard)
          ∙ sym (same_log said c parts table_low shard_low (found ++ all) x.number is.frontier.0 (subst (λ i. AscendByOne (numbers_of i (found ++ all) ++ (x.number + 1) ∷ [])) (sym is.of_shard) ends) j
          (λ at. other (at ∙ is.of_table)))) has

      by : ((k ≡ n) × (y ≡ z)) ⊎ ((k ≢ n) × (slice_get s.shards k ≡ Some z))
          → RemembersJust s.tables j (mutations_of j (found_in k (unflushed_of (change_after said c) (found ++ all))).entries) z
      by (inl (at, same)) =
          subst (λ (w : ShardState). RemembersJust s.tables j (mutations_of j (found_in k (unflushed_of (change_after said c) (found ++ all))).entries) w) same
          (subst (λ i. RemembersJust s.tables j (mutations_of j (found_in i (unflushed_of (change_after said c) (found ++ all))).entries) y) (is.of_shard ∙ sym at)
          (here (swapped j (mutations_of j (found_in n (unflushed_of said (found ++ all))).entries) (explained.memory n j x there))))
      by (inr (apart, had)) =
          let low : k < said.shards = omega (arith, get_within s.shards k z had, many, lasts.shards) in
          subst (λ (o : ShardOpening). RemembersJust s.tables j (mutations_of j o.entries) z)
          (sym (other_log said c shard_low (found ++ all) k low (λ at. apart (at ∙ is.of_shard)))) (explained.memory k j z had)

  -- ---- the change was told

  pub explains_told : (y : ShardState) → u.tables ≡ s.tables
      → ((k : ℕ) (z : ShardState) → slice_get u.shards k ≡ Some z → ((k ≡ n) × (y ≡ z)) ⊎ ((k ≢ n) × (slice_get s.shards k ≡ Some z)))
      → ((k : ℕ) (ws : List Mutation) → RemembersJust s.tables k ws x → ((k ≡ t.number) × RemembersJust s.tables k [] y) ⊎ ((k ≢ t.number) × RemembersJust s.tables k ws y))
      → Explains openings h found u e (appended (change_entry c) (committed_all was))
  explains_told y tables each swapped =
      explains_change (appended (change_entry c) (committed_all was)) (λ entries may. inr (only_appended entries may)) refl refl
      (subst (λ (v : Saying). RememberAll u.tables (unflushed_of v (found ++ all)) u.shards) (sym (said_more was.entries (change_entry c))) (memory_then y u.tables tables each swapped))
    where
      only_appended : (entries : List ManifestEntry) → MayList (appended (change_entry c) (committed_all was)) entries → entries ≡ was.entries ++ change_entry c ∷ []
      only_appended entries (inl same) = same
      only_appended entries (inr more) = more ∙ ap (λ l. (was.entries ++ change_entry c ∷ []) ++ l) none_failed ∙ append-nil (was.entries ++ change_entry c ∷ [])

  -- ---- it wasn't

  module _ (tables : u.tables ≡ s.tables) (shards : u.shards ≡ s.shards) where
    same_memory : (ms : List Mutation) → RememberAll s.tables ms s.shards → RememberAll u.tables ms u.shards
    same_memory ms have =
        subst (λ (ts : List TableSchema). RememberAll ts ms u.shards) (sym tables) (subst (λ (xs : List ShardState). RememberAll s.tables ms xs) (sym shards) have)

    only_was : (entries : List ManifestEntry) → MayList (committed_all was) entries → entries ≡ was.entries
    only_was entries (inl same) = same
    only_was entries (inr more) = more ∙ ap (λ l. was.entries ++ l) none_failed ∙ append-nil was.entries

    after_fault : (f : JournalFault) → Explains openings h found u e (told_after f (change_entry c) (committed_all was))
    after_fault (TooLarge size most) = explains_change (committed_all was) (λ entries may. inl (only_was entries may)) refl refl (same_memory (unflushed_of said (found ++ all)) explained.memory)
    after_fault (TooMany what most) = explains_change (committed_all was) (λ entries may. inl (only_was entries may)) refl refl (same_memory (unflushed_of said (found ++ all)) explained.memory)
    after_fault (Stopped first) = explains_change (committed_all was) (λ entries may. inl (only_was entries may)) refl refl (same_memory (unflushed_of said (found ++ all)) explained.memory)
    after_fault Failed = explains_change (failed_at (change_entry c) (committed_all was)) (λ entries may. may) refl refl (same_memory (unflushed_of said (found ++ all)) explained.memory)
    after_fault Mem = explains_change (committed_all was) (λ entries may. inl (only_was entries may)) refl refl (same_memory (unflushed_of said (found ++ all)) explained.memory)

    pub explains_untold : (f : JournalFault) (v : Told) → MayBeTold f (change_entry c) was v → Explains openings h found u e v
    explains_untold f v (inl same) =
        subst (λ (w : Told). Explains openings h found u e w) (sym same)
        (explains_still openings h h found s u d e was (λ k. goes_nowhere (shard_at h k)) refl (ap accepted_in list) (keep_files was d e during) same_memory explained)
    explains_untold f v (inr since) = subst (λ (w : Told). Explains openings h found u e w) (sym since) (after_fault f)
