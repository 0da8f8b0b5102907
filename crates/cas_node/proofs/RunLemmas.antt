-- What a run did with its folder and its script, and how it ends.
use Rattle.std.proofs.Common.{◌≡◌, ◌≤◌, ℕ, ℤ, pos, Bool, true, false, Option, None, Some, is_some, List, [], ◌∷◌, ◌++◌, length, refl, sym, ap, ◌∙◌, subst, append-nil, inl, inr, arith}
use Rattle.std.specs.Prelude.{if◌then◌else◌, ◌⊎◌, ◌||◌, nat_le, nat_lt, IfSome, IsSome, IsTrue}
use Rattle.std.specs.List.{fold}
use Rattle.std.specs.Str.Lines.{lines}
use Rattle.std.specs.Io.KnownBytes.{Keeps as KeepsBytes}
use Rattle.std.proofs.lemmas.Bool.{le-leb, leb-true}
use Rattle.std.proofs.Math.Logic.{∥∥₁_elim}
use mathlib.Core.HLevel.{⊥_prop}
use Rattle.std.proofs.lemmas.Option.{same_Some}
use Rattle.cas_io.specs.Causes.{Rose}
use Rattle.cas_io.specs.Streams.{ReadToEnd}
use Rattle.cas_types.specs.declared.schema.TableSchema.{TableSchema}
use Rattle.cas_disk.specs.declared.name.Name.{Name}
use Rattle.cas_disk.specs.declared.name.Name.TheVariants as file
use Rattle.cas_disk.specs.Disk.{Disk, During, Image}
use Rattle.cas_gates.specs.declared.first.First.{First}
use Rattle.cas_atoms.specs.declared.atom.Mutation.{Mutation}
use Rattle.cas_bind.specs.declared.bound.Limits.{Limits}
use Rattle.cas_changes.specs.Saying.{said_by}
use Rattle.cas_changes.specs.declared.entry.Entry.{Entry as ManifestEntry}
use Rattle.cas_history.specs.declared.item.Item.{Item}
use Rattle.cas_journal.specs.Journals.{Lasts}
use Rattle.cas_journal.specs.Stores.{Told}
use Rattle.cas_journal.specs.declared.journal.Journal.{Journal}
use Rattle.cas_opening.specs.Opening.{IsOfBytes, OpensAs, next_segment}
use Rattle.cas_opening.proofs.Readings.{one_store, opens_not_bad}
use Rattle.cas_recovery.specs.declared.fault.RecoveryFault.{RecoveryFault}
use Rattle.cas_recovery.specs.declared.fault.RecoveryFault.TheVariants as recovery
use Rattle.cas_recovery.specs.Openings.{AreOpenings}
use Rattle.cas_recovery.specs.Recovered.{IsBadTable, IsUnreadable}
use Rattle.cas_recovery.specs.Restored.{IsTold}
use Rattle.cas_recovery.proofs.Refusing.{never_bad}
use Rattle.cas_room.specs.declared.event.Event.{Event}
use Rattle.cas_shard.specs.declared.entry.ShardOpening.{ShardOpening}
use Rattle.cas_shard.specs.Stands.{ShardState}
use Rattle.cas_render.specs.declared.reply.Reply.{Reply}
use Rattle.cas_render.specs.declared.reply.Reply.TheVariants as reply
use Rattle.cas_render.specs.declared.reply.Failure.TheVariants as failure
use Rattle.cas_words.specs.Words.{command_of}
use Rattle.cas_words.specs.declared.words.ClockKind.{ClockKind}
use Rattle.cas_words.specs.declared.words.Command.{Command}
use Rattle.cas_node.specs.declared.cause.Cause.{Cause}
use Rattle.cas_node.specs.declared.cause.Cause.TheVariants as cause
use Rattle.cas_node.specs.declared.program.TheConstants.{SCRIPT_LIMIT}
use Rattle.cas_lasting.specs.History.{History, DiskState}
use Rattle.cas_node.specs.declared.upshot.Upshot.{Upshot}
use Rattle.cas_node.specs.Lines.{NoneFlushes, Runs, Tells}
use Rattle.cas_sstread.specs.Loading.{Held}
use Rattle.cas_view.specs.Views.{File}
use Rattle.cas_lasting.specs.Starts.{AreExplained, AreItsFiles, Begins, start, BeginsAs, IsInMemory, IsOpenedAs, IsStarted}
use Rattle.cas_node.specs.Ran.{AllWell, AreGood, Ended, GoodOrMem, IfBad, IfUnread, IsBadForOne, IsCalm, IsGranted, IsKnown, IsNotRun, Outside, Ran, RanAll, RanFrom, RanOn, Stop, WriteRose, at_the_end, at_the_sink, for_memory, has_risen, reply_cause, upshot_cause, verdicts_cause, weight, with_faults, worse, worst}
use Rattle.cas_node.proofs.Standing.{all_stand, standing_good}
use Rattle.cas_node.specs.Inner.Serving.{EndsServed, IsKnownIn, IsKnownOn, ListsIf, MovesIf, Served, Serves}
use Rattle.cas_lasting.specs.Entered.{IsLeft}
use Rattle.cas_lasting.specs.Listing.{SameListed}
use Rattle.cas_lasting.proofs.Listing.{lists_since}
use Rattle.cas_lasting.proofs.Explaining.{opening_in}
use Rattle.cas_lasting.proofs.Serving.{is_explained}
use Rattle.cas_recovery.proofs.Explained.{as_opening}
use Rattle.cas_node.specs.Inner.Turns.{cause_of_opening, IsEnd}
use Rattle.cas_lasting.specs.Nodes.{State, StandsFor, LastsFor, disk_of, files_in}
use Rattle.cas_node.proofs.Blaming.{blamed, of_both}
use Rattle.cas_node.proofs.SessionLemmas.{told_ends, verdicts_told}
use Rattle.cas_node.proofs.Staying.{AreUpTo, from_before}
use Rattle.cas_node.proofs.Stopping.{stop_is_counted}

-- ---- what was served

module _ (kind : ClockKind) (Gives : ℤ → Type 0) (script : List ℕ) (old new : Option (List ℕ)) (s t : State) (d e : Disk) (faults_before : ℕ) (told why : Cause)
    (moves : MovesIf (IsKnownIn kind Gives s d script) (λ h after. RanFrom h kind Gives script old new after told) s t d e) (l : Limits) (tables : List TableSchema) (shards : List ShardState) (frontiers : List ℕ) (last live : ℕ) (journal : Journal)
    (faults reads : ℕ) (opened : IsOpenedAs l tables shards journal faults reads s)
    (begins : (given : Limits) (entries : List ManifestEntry) (mutations : List Mutation) (openings : ℕ → ShardOpening)
    → IsInMemory given entries mutations openings l tables shards frontiers last live → BeginsAs given entries mutations openings d s)
    (going : journal.first ≡ None) (ended : why ≡ with_faults faults_before t.faults t.reads told)
    (left : (h : History) (found : List Mutation) (u : Told) → StandsFor h t → LastsFor h found t e u → (i : Image) → e.may_leave i → IsLeft found t.list h i)
    (lists : ListsIf (λ h. NoneFlushes kind Gives h (lines script)) s d e) where
  of_store : (given : Limits) (entries : List ManifestEntry) (mutations : List Mutation) (openings : ℕ → ShardOpening)
      → IsInMemory given entries mutations openings l tables shards frontiers last live → BeginsAs given entries mutations openings d s → journal.last_segment ≤ next_segment entries
      → IsKnownOn d journal entries mutations (Begins given entries mutations openings (files_in shards) faults) (λ first. NoneFlushes kind Gives first (lines script))
      → Served kind Gives script old new given entries mutations openings (files_in shards) journal d e faults_before faults t.faults t.reads t.list why
  of_store given entries mutations openings memory first segment known =
      let (after, ran, goes) = moves (start given entries mutations openings s.session (disk_of s)) first.stands (known_as known) in
      record {
        first = start given entries mutations openings s.session (disk_of s);
        begins = began;
        final = after;
        told = told;
        ran = ran;
        entered = goes.stands.entered;
        crash = λ u is lasts i leaves.
            let (now, still, explains) = goes.lasts mutations u (first.lasts u is (subst (λ (j : Journal). Lasts j d u) (sym opened.journal_is) lasts)) in
            left after mutations now goes.stands still i leaves;
        lists = λ none u is lasts.
            lists (start given entries mutations openings s.session (disk_of s)) mutations u first.stands
            (first.lasts u is (subst (λ (j : Journal). Lasts j d u) (sym opened.journal_is) lasts)) none;
        next = λ u is lasts explained i leaves bytes.
            let (now, still, explains) = goes.lasts mutations u (first.lasts u is (subst (λ (j : Journal). Lasts j d u) (sym opened.journal_is) lasts)) in
            is_explained after mutations t e now goes.stands still openings (explains openings (first.explains u is explained)) i leaves bytes;
        faults = ap (λ disk. disk.faults) goes.stands.disk;
        reads_are = ap (λ disk. disk.reads) goes.stands.disk;
        ended = ended;
      }
    where
      began : Begins given entries mutations openings (files_in shards) faults (start given entries mutations openings s.session (disk_of s))
      began = record {
        session = s.session;
        disk = disk_of s;
        history = refl;
        going = ap (λ (j : Journal). is_some j.first) opened.journal_is ∙ ap (λ (f : Option First). is_some f) going;
        faults = omega (arith, opened.faults_are);
        segment = subst (λ (j : Journal). j.last_segment ≤ next_segment entries) (sym opened.journal_is) segment;
        files_are = ap files_in opened.shards_are;
        last_file = first.counts.0;
        live = first.counts.1;
      }

      known_as : IsKnownOn d journal entries mutations (Begins given entries mutations openings (files_in shards) faults) (λ first. NoneFlushes kind Gives first (lines script))
          → IsKnownIn kind Gives s d script (start given entries mutations openings s.session (disk_of s))
      known_as (inl (tells, (u, is, lasts))) =
          let kept = first.lasts u is (subst (λ (j : Journal). Lasts j d u) (sym opened.journal_is) lasts) in
          inl (tells, (start given entries mutations openings s.session (disk_of s), mutations, u, first.stands, kept))
      known_as (inr none) = inr (none (start given entries mutations openings s.session (disk_of s)) began)

  serves : (pass : Option (List (Item Event))) → IsSome pass → IfSome pass (λ p. p ≡ t.list)
      → Serves kind Gives script old new l tables shards frontiers last live journal d faults faults_before e t.faults t.reads pass why
  serves None some is = absurd cc
  serves (Some items) some is = λ given entries mutations openings memory segment known.
      subst
      (λ (xs : List (Item Event)). Served kind Gives script old new given entries mutations openings (files_in shards) journal d e faults_before faults t.faults t.reads xs why)
      (sym is) (of_store given entries mutations openings memory (begins given entries mutations openings memory) segment known)

  -- also where the disks and the counts of faults are called otherwise
  pub serves_as : (before after : Disk) (now read : ℕ) (pass : Option (List (Item Event))) → d ≡ before → e ≡ after → t.faults ≡ now → t.reads ≡ read → IsSome pass
      → IfSome pass (λ p. p ≡ t.list) → Serves kind Gives script old new l tables shards frontiers last live journal before faults faults_before after now read pass why
  serves_as before after now read pass at_first at_last count reading some is =
      subst (λ x. Serves kind Gives script old new l tables shards frontiers last live journal x faults faults_before after now read pass why) at_first
      (subst (λ x. Serves kind Gives script old new l tables shards frontiers last live journal d faults faults_before x now read pass why) at_last
      (subst (λ n. Serves kind Gives script old new l tables shards frontiers last live journal d faults faults_before e n read pass why) count
      (subst (λ n. Serves kind Gives script old new l tables shards frontiers last live journal d faults faults_before e t.faults n pass why) reading (serves pass some is))))

-- a store that was opened is the same in the eyes of a session that wrote nothing
pub opened_as : (l : Limits) (tables : List TableSchema) (shards : List ShardState) (journal : Journal) (faults reads : ℕ) (f g : ℕ → ℕ → ℤ → State) (session calls : ℕ) (clock : ℤ)
    → f ≡ g → calls ≡ 0 → ((session : ℕ) (clock : ℤ) → IsOpenedAs l tables shards journal faults reads (g session 0 clock))
    → IsOpenedAs l tables shards journal faults reads (f session calls clock)
opened_as l tables shards journal faults reads f g session calls clock same none opened =
    subst (λ (k : ℕ → ℕ → ℤ → State). IsOpenedAs l tables shards journal faults reads (k session calls clock)) (sym same)
    (subst (λ (n : ℕ). IsOpenedAs l tables shards journal faults reads (g session n clock)) (sym none) (opened session clock))

pub begins_as : (given : Limits) (entries : List ManifestEntry) (mutations : List Mutation) (openings : ℕ → ShardOpening) (f g : ℕ → ℕ → ℤ → State) (session calls : ℕ) (d e : Disk)
    → f ≡ g → calls ≡ 0 → d ≡ e → BeginsAs given entries mutations openings e (g session 0 (pos 0)) → BeginsAs given entries mutations openings d (f session calls (pos 0))
begins_as given entries mutations openings f g session calls d e same none disk begins =
    subst (λ (k : ℕ → ℕ → ℤ → State). BeginsAs given entries mutations openings d (k session calls (pos 0))) (sym same)
    (subst (λ (n : ℕ). BeginsAs given entries mutations openings d (g session n (pos 0))) (sym none)
    (subst (λ (x : Disk). BeginsAs given entries mutations openings x (g session 0 (pos 0))) (sym disk) begins))

-- the same of a store that was closed, once its session had ended
pub left_by : (f g : ℕ → ℕ → ℤ → State) (session calls : ℕ) (clock : ℤ) (d e k : Disk) → f ≡ g → d ≡ e → k ≡ e
    → ((session calls : ℕ) (clock : ℤ) (h : History) (found : List Mutation) (told : Told) → StandsFor h (f session calls clock)
    → LastsFor h found (f session calls clock) d told → (c : Image) → k.may_leave c → IsLeft found (f session calls clock).list h c)
    → (h : History) (found : List Mutation) (u : Told) → StandsFor h (g session calls clock) → LastsFor h found (g session calls clock) e u
    → (i : Image) → e.may_leave i → IsLeft found (g session calls clock).list h i
left_by f g session calls clock d e k same at_close of_folder left h found u stands lasts i leaves =
    subst (λ (x : ℕ → ℕ → ℤ → State). IsLeft found (x session calls clock).list h i) same
    (left session calls clock h found u (subst (λ (x : ℕ → ℕ → ℤ → State). StandsFor h (x session calls clock)) (sym same) stands)
    (subst (λ (y : Disk). LastsFor h found (f session calls clock) y u) (sym at_close)
    (subst (λ (x : ℕ → ℕ → ℤ → State). LastsFor h found (x session calls clock) e u) (sym same) lasts))
    i (subst (λ (y : Disk). y.may_leave i) (sym of_folder) leaves))

pub pass_by : (f g : ℕ → ℕ → ℤ → State) (session calls : ℕ) (clock : ℤ) (p q : Option (List (Item Event))) → f ≡ g → q ≡ p
    → IfSome p (λ l. l ≡ (f session calls clock).list) → IfSome q (λ l. l ≡ (g session calls clock).list)
pass_by f g session calls clock p q same is of =
    subst (λ (x : Option (List (Item Event))). IfSome x (λ l. l ≡ (g session calls clock).list)) (sym is)
    (subst (λ (x : ℕ → ℕ → ℤ → State). IfSome p (λ l. l ≡ (x session calls clock).list)) same of)

-- how the disk stands at the beginning
first_disk : (l : Limits) (entries : List ManifestEntry) (mutations : List Mutation) (openings : ℕ → ShardOpening) (session : ℕ) (disk : DiskState)
    → (start l entries mutations openings session disk).disk ≡ disk
unfolding start
first_disk l entries mutations openings session disk = refl

-- ---- the script ran

keeps : (old new : Option (List ℕ)) → new ≡ old → KeepsBytes old new
keeps None new same = tt
keeps (Some xs) None same = absurd cc
keeps (Some xs) (Some ys) same = same_Some ys xs same

module _ (words : List (List ℕ)) (Gives : ℤ → Type 0) (before after : Outside) (c : Command) (script : List ℕ) (limits : Limits) (tables : List TableSchema) (shards : List ShardState)
    (frontiers : List ℕ) (last live : ℕ) (journal : Journal) (mid : Disk) (faults reads : ℕ) (why : Cause) (said : command_of words ≡ Some c) (read : ReadToEnd before.left after.left script)
    (started : IsStarted c.limits limits tables shards frontiers last live journal before.folder mid) (kept : before.folder_faults ≤ faults) (n : ℕ) (counted : n ≡ before.folder_faults)
    (stay : (d : Image) → before.folder.reads d → IsOfBytes d → (entries : List ManifestEntry) (mutations : List Mutation) → OpensAs c.limits.shards entries mutations d
    → AreUpTo last entries → During (SameListed entries) before.folder after.folder)
    (telling : (d : Image) → before.folder.reads d → IsOfBytes d → (entries : List ManifestEntry) (mutations : List Mutation) → OpensAs c.limits.shards entries mutations d
    → Tells mid)
    (opening : (d : Image) → before.folder.reads d → IsOfBytes d → (entries : List ManifestEntry) (mutations : List Mutation) → OpensAs c.limits.shards entries mutations d
    → During (SameListed entries) before.folder mid) where
  module _ (entries : List ManifestEntry) (mutations : List Mutation) (openings : ℕ → ShardOpening) (files : ℕ → ℕ → List (File Held)) (h : History)
      (begins : Begins c.limits entries mutations openings files faults h) where
    earlier : Begins c.limits entries mutations openings files before.folder_faults h
    earlier = record {
      session = begins.session;
      disk = begins.disk;
      history = begins.history;
      going = begins.going;
      faults = omega (arith, kept, begins.faults);
      segment = begins.segment;
      files_are = begins.files_are;
      last_file = begins.last_file;
      live = begins.live;
    }

    at_first : h.disk ≡ begins.disk
    at_first = ap (λ (k : History). k.disk) begins.history ∙ first_disk c.limits entries mutations openings begins.session begins.disk

    not_stopped : h.disk.stopped ≡ false
    not_stopped = ap (λ (d : DiskState). d.stopped) at_first ∙ begins.going

    counted_from : before.folder_faults ≤ h.disk.faults
    counted_from = omega (arith, kept, begins.faults, ap (λ (d : DiskState). d.faults) at_first)

  of_served : (list : List (Item Event)) (entries : List ManifestEntry) (mutations : List Mutation) (openings : ℕ → ShardOpening) (files : ℕ → ℕ → List (File Held))
      → ((image : Image) → before.folder.reads image → IsOfBytes image → (t : Told) × IsTold entries mutations t × Lasts journal mid t)
      → ((image : Image) → before.folder.reads image → IsOfBytes image → AreExplained entries mutations openings mid)
      → Served c.clock Gives script before.taken after.taken c.limits entries mutations openings files journal mid after.folder n faults after.folder_faults reads list why
      → RanOn c Gives script before after reads list why entries mutations openings files
  of_served list entries mutations openings files lasts explained served =
      let ended : why ≡ with_faults before.folder_faults after.folder_faults reads served.told =
      served.ended ∙ ap (λ (k : ℕ). with_faults k after.folder_faults reads served.told) counted in
      record {
        first = served.first;
        begins = earlier entries mutations openings files served.first served.begins;
        final = served.final;
        told = served.told;
        ran = served.ran;
        entered = served.entered;
        crash = λ image reads bytes i left. let (t, told, still) = lasts image reads bytes in served.crash t told still i left;
        lists = λ none image reads bytes i left.
            let (t, told, still) = lasts image reads bytes in
            lists_since journal mid after.folder t entries mutations told still (served.lists none t told still) i left;
        next = λ image reads bytes i left its_bytes.
            let (t, told, still) = lasts image reads bytes in
            served.next t told still (explained image reads bytes) i left its_bytes;
        faults = served.faults;
        reads_are = served.reads_are;
        counted =
            stop_is_counted c.clock Gives served.first served.ran.run served.ran.upshots served.final before.folder_faults after.folder_faults served.ran.steps
            (not_stopped entries mutations openings files served.first served.begins) (counted_from entries mutations openings files served.first served.begins) served.faults;
        bad =
            blamed c.clock Gives served.first script before.taken after.taken served.final served.told why before.folder_faults after.folder_faults reads served.ran ended;
        ended = ended;
      }

  -- what the folder tells as it was found, it tells of the store that was opened
  known_in : (openings : ℕ → ShardOpening) → IsKnown c Gives script before started.back.entries started.back.mutations openings (files_in shards)
      → IsKnownOn mid journal started.back.entries started.back.mutations
      (Begins c.limits started.back.entries started.back.mutations openings (files_in shards) faults) (λ first. NoneFlushes c.clock Gives first (lines script))
  known_in openings (inl (d, reads, bytes)) =
      inl (telling d reads bytes started.back.entries started.back.mutations (started.back.found.told d reads bytes), started.back.lasts d reads bytes)
  known_in openings (inr none) =
      inr (λ first begins. none first (earlier started.back.entries started.back.mutations openings (files_in shards) first begins))

  listed_on : (d : Image) → before.folder.reads d → IsOfBytes d → During (SameListed started.back.entries) before.folder after.folder
  listed_on d reads bytes =
      stay d reads bytes started.back.entries started.back.mutations (started.back.found.told d reads bytes) started.back.behind.numbers

  -- what the shards may have been by the folder as it was found, they may have been by what a crash may leave once it was opened
  explained_on : (openings : ℕ → ShardOpening) → AreOpenings started.back.entries started.back.mutations before.folder openings → (d : Image) → before.folder.reads d → IsOfBytes d
      → AreExplained started.back.entries started.back.mutations openings mid
  explained_on openings are d reads bytes i leaves n low =
      let entries = started.back.entries in
      let (b, was, alike) = from_before entries before.folder mid (opening d reads bytes entries started.back.mutations (started.back.found.told d reads bytes)) i leaves in
      opening_in (said_by entries) started.back.mutations before.folder b i n (openings n) low was alike
      (as_opening entries started.back.mutations started.back.found.of_a_store.log before.folder n (openings n) low (are n low))

  ran_over : (list : List (Item Event))
      → Serves c.clock Gives script before.taken after.taken limits tables shards frontiers last live journal mid faults n after.folder after.folder_faults reads (Some list) why
      → Ran c Gives script before after reads list why
  ran_over list serves = record {
    entries = started.back.entries;
    mutations = started.back.mutations;
    found = started.back.found;
    files = files_in shards;
    its_files = started.files;
    tables = listed_on;
    on = λ openings are known.
        of_served list started.back.entries started.back.mutations openings (files_in shards) started.back.lasts (explained_on openings are)
        (serves c.limits started.back.entries started.back.mutations openings (started.memory openings are) started.back.segment (known_in openings known));
  }

  pub ran_all : (pass : Option (List (Item Event))) → length script ≤ SCRIPT_LIMIT
      → Serves c.clock Gives script before.taken after.taken limits tables shards frontiers last live journal mid faults n after.folder after.folder_faults reads pass why
      → (pass ≡ None → after.taken ≡ before.taken) → RanAll words Gives before after reads pass why
  ran_all None short serves unwritten = (keeps before.taken after.taken (unwritten refl), subst IsNotRun (sym serves) tt)
  ran_all (Some list) short serves unwritten = (c, said, (script, read, short, ran_over list serves))

-- ---- what ends a run

-- without a fault it ends as its lines did
calm_by : (before now reads : ℕ) (b d : Bool) → has_risen before now ≡ b → has_risen 0 reads ≡ d → (told : Cause) → (Rose before now → ⊥) → (Rose 0 reads → ⊥)
    → (if b || d then worse told cause.Disk else told) ≡ told
calm_by before now reads true d test other told none quiet = absurd (none (leb-true _ now test))
calm_by before now reads false true test other told none quiet = absurd (quiet (leb-true _ reads other))
calm_by before now reads false false test other told none quiet = refl

calm : (before now reads : ℕ) (told : Cause) → (Rose before now → ⊥) → (Rose 0 reads → ⊥) → with_faults before now reads told ≡ told
calm before now reads told none quiet = calm_by before now reads (has_risen before now) (has_risen 0 reads) refl refl told none quiet

-- where it is told that the disk failed, a count rose
told_by : (before now reads : ℕ) (b d : Bool) → has_risen before now ≡ b → has_risen 0 reads ≡ d → (told : Cause) → IsEnd told
    → (if b || d then worse told cause.Disk else told) ≡ cause.Disk → Rose before now ⊎ Rose 0 reads
told_by before now reads true d test other told end is = inl (leb-true _ now test)
told_by before now reads false true test other told end is = inr (leb-true _ reads other)
told_by before now reads false false test other told end is = absurd (subst IsEnd is end)

-- where it is told that a write failed, that is of a line
disk_is_not : cause.Disk ≡ cause.Write → ⊥
disk_is_not same = cc

not_disk : (b : Bool) (told : Cause) → (if b then cause.Disk else told) ≡ cause.Write → told ≡ cause.Write
not_disk true told is = absurd (disk_is_not is)
not_disk false told is = is

write_by : (b : Bool) (told : Cause) → (if b then worse told cause.Disk else told) ≡ cause.Write → told ≡ cause.Write
write_by true told is = not_disk (nat_lt (weight told) (weight cause.Disk)) told is
write_by false told is = is

pub write_told : (before now reads : ℕ) (told why : Cause) → why ≡ with_faults before now reads told → why ≡ cause.Write → told ≡ cause.Write
write_told before now reads told why is write = write_by (has_risen before now || has_risen 0 reads) told (sym is ∙ write)

mem_is_not : cause.Mem ≡ cause.Disk → ⊥
mem_is_not same = cc

pub disk_told : (before now reads : ℕ) (why : Cause) → EndsServed before now reads why → why ≡ cause.Disk → Rose before now ⊎ Rose 0 reads
disk_told before now reads why (inl mem) is = absurd (mem_is_not (sym mem ∙ is))
disk_told before now reads why (inr (told, end, ended)) is = told_by before now reads (has_risen before now) (has_risen 0 reads) refl refl told end (sym ended ∙ is)

-- and where one did, that is told, or what comes before it
abbrev IsGrave : Cause → Type 0
IsGrave why = IsTrue (nat_le (weight cause.Disk) (weight why))

grave : (told : Cause) → IsEnd told → IsGrave (worse told cause.Disk)
grave cause.Good end = refl
grave cause.Refused end = refl
grave cause.Write end = refl
grave (cause.Bad name at) end = refl
grave cause.Mem end = refl
grave cause.Disk end = absurd end
grave cause.Words end = absurd end
grave cause.Read end = absurd end
grave (cause.TooLong taken) end = absurd end

grave_by : (b d : Bool) (told : Cause) → IsEnd told → (b ≡ true) ⊎ (d ≡ true) → IsGrave (if b || d then worse told cause.Disk else told)
grave_by true d told end rose = grave told end
grave_by false true told end rose = grave told end
grave_by false false told end (inl rose) = absurd cc
grave_by false false told end (inr rose) = absurd cc

pub not_disk_told : (before now reads : ℕ) (why : Cause) → EndsServed before now reads why → Rose before now ⊎ Rose 0 reads → IsGrave why
not_disk_told before now reads why (inl mem) rose = subst IsGrave (sym mem) refl
not_disk_told before now reads why (inr (told, end, ended)) rose =
    subst IsGrave (sym ended) (grave_by (has_risen before now) (has_risen 0 reads) told end (tested rose))
  where
    tested : Rose before now ⊎ Rose 0 reads → (has_risen before now ≡ true) ⊎ (has_risen 0 reads ≡ true)
    tested (inl one) = inl (le-leb _ now one)
    tested (inr other) = inr (le-leb _ reads other)

-- the words or the script don't end it
ended_read : (told : Cause) (P : Type 0) → IsEnd told → IfUnread told P
ended_read cause.Good P end = tt
ended_read cause.Refused P end = tt
ended_read cause.Write P end = tt
ended_read (cause.Bad name at) P end = tt
ended_read cause.Mem P end = tt
ended_read cause.Disk P end = tt
ended_read cause.Words P end = absurd end
ended_read cause.Read P end = absurd end
ended_read (cause.TooLong taken) P end = absurd end

pub served_read : (before now reads : ℕ) (why : Cause) (P : Type 0) → EndsServed before now reads why → IfUnread why P
served_read before now reads why P (inl mem) = subst (λ w. IfUnread w P) (sym mem) tt
served_read before now reads why P (inr (told, end, ended)) =
    subst (λ w. IfUnread w P) (sym ended)
    (of_both (λ w. IfUnread w P) (has_risen before now || has_risen 0 reads) told (worse told cause.Disk) (ended_read told P end)
    (of_both (λ w. IfUnread w P) _ told cause.Disk (ended_read told P end) tt))

-- where no line was run, no file is blamed by a run
pub none_bad : (why : Cause) (P : Name → ℕ → Type 0) → why ≡ cause.Mem → IfBad why P
none_bad why P mem = subst (λ (w : Cause). IfBad w P) (sym mem) tt

-- ---- an opening that ends a run

if_bad : (fault : RecoveryFault) (P : Name → ℕ → Type 0) → ((name : Name) (at : ℕ) → fault ≡ recovery.Bad name at → P name at) → IfBad (cause_of_opening fault) P
if_bad (recovery.Bad name at) P bad = bad name at refl
if_bad recovery.Failed P bad = tt
if_bad recovery.Read P bad = tt
if_bad recovery.Mem P bad = tt

-- the folder is refused for bytes that aren't as they must be
pub bad_opening : (words : List (List ℕ)) (folder : Disk) (c : Command) (fault : RecoveryFault) (why : Cause) → command_of words ≡ Some c → why ≡ cause_of_opening fault
    → ((name : Name) (at : ℕ) → fault ≡ recovery.Bad name at → (d : Image) → folder.reads d → IsOfBytes d → IsUnreadable c.limits.shards folder name at d)
    → IfBad why (λ name at. (k : Command) → command_of words ≡ Some k → (d : Image) → folder.reads d → IsOfBytes d → IsUnreadable k.limits.shards folder name at d)
bad_opening words folder c fault why said is refused =
    subst (λ (w : Cause). IfBad w (λ name at. (k : Command) → command_of words ≡ Some k → (d : Image) → folder.reads d → IsOfBytes d → IsUnreadable k.limits.shards folder name at d)) (sym is)
    (if_bad fault _
    (λ name at e k too d reads bytes. subst (λ (j : Command). IsUnreadable j.limits.shards folder name at d) (same_Some c k (sym said ∙ too)) (refused name at e d reads bytes)))

-- it is told that the disk failed only where a count rose
pub disk_opening : (before now reads : ℕ) (fault : RecoveryFault) → (fault ≡ recovery.Failed → Rose before now) → (fault ≡ recovery.Read → Rose 0 reads)
    → cause_of_opening fault ≡ cause.Disk → Rose before now ⊎ Rose 0 reads
disk_opening before now reads (recovery.Bad name at) failed read is = absurd cc
disk_opening before now reads recovery.Failed failed read is = inl (failed refl)
disk_opening before now reads recovery.Read failed read is = inr (read refl)
disk_opening before now reads recovery.Mem failed read is = absurd cc

-- and it is told, or what comes before it
pub grave_opening : (fault : RecoveryFault) → IsGrave (cause_of_opening fault)
grave_opening (recovery.Bad name at) = refl
grave_opening recovery.Failed = refl
grave_opening recovery.Read = refl
grave_opening recovery.Mem = refl

pub opening_read : (fault : RecoveryFault) (P : Type 0) → IfUnread (cause_of_opening fault) P
opening_read (recovery.Bad name at) P = tt
opening_read recovery.Failed P = tt
opening_read recovery.Read P = tt
opening_read recovery.Mem P = tt

-- ---- where all is well

-- what comes of lines says
of_reply : (r : Option Reply) → IsEnd (reply_cause r)
of_reply None = tt
of_reply (Some reply.Done) = tt
of_reply (Some (reply.Wrote n)) = tt
of_reply (Some (reply.Rows rows shard front now)) = tt
of_reply (Some (reply.Flushed files)) = tt
of_reply (Some (reply.Verified verdicts)) = told_ends (verdicts_cause verdicts) (verdicts_told verdicts)
of_reply (Some (reply.Status tables)) = tt
of_reply (Some (reply.Refused n)) = tt
of_reply (Some (reply.Failed failure.Memory)) = tt
of_reply (Some (reply.Failed failure.Stopped)) = tt
of_reply (Some (reply.Failed failure.Disk)) = tt
of_reply (Some (reply.Failed failure.Read)) = tt
of_reply (Some (reply.Failed (failure.Block n at))) = tt

of_upshot : (o : Upshot) → IsEnd (upshot_cause o)
of_upshot o =
    of_both IsEnd o.want (reply_cause o.reply) (worse (reply_cause o.reply) cause.Mem) (of_reply o.reply) (of_both IsEnd _ (reply_cause o.reply) cause.Mem (of_reply o.reply) tt)

of_upshots : (c : Cause) (os : List Upshot) → IsEnd c → IsEnd (fold (λ c o. worse c (upshot_cause o)) c os)
of_upshots c [] h = h
of_upshots c (o ∷ os) h = of_upshots (worse c (upshot_cause o)) os (of_both IsEnd _ c (upshot_cause o) h (of_upshot o))

-- a failed write is told, or memory ran out, or a file is bad
cut : (c : Cause) → IsEnd c → (worse c cause.Write ≡ cause.Write → ⊥) → IfBad c (λ name at. ⊥) → GoodOrMem (worse c cause.Write)
cut cause.Good i h b = absurd (h refl)
cut cause.Refused i h b = absurd (h refl)
cut cause.Write i h b = absurd (h refl)
cut cause.Mem i h b = inr refl
cut cause.Disk i h b = absurd i
cut cause.Words i h b = absurd i
cut cause.Read i h b = absurd i
cut (cause.Bad name at) i h b = absurd b
cut (cause.TooLong taken) i h b = absurd i

-- where a file that is bad wouldn't be told as less than a failed write
uncut : (c : Cause) → IfBad (worse c cause.Write) (λ name at. ⊥) → IfBad c (λ name at. ⊥)
uncut cause.Good b = tt
uncut cause.Refused b = tt
uncut cause.Write b = tt
uncut cause.Mem b = tt
uncut cause.Disk b = tt
uncut cause.Words b = tt
uncut cause.Read b = tt
uncut (cause.Bad name at) b = b
uncut (cause.TooLong taken) b = tt

stops_well : (first : History) (kind : ClockKind) (Gives : ℤ → Type 0) (script : List ℕ) (old new : Option (List ℕ)) (final : History) (why : Cause)
    → IsGranted first kind Gives script → IsCalm first.disk final.disk → (why ≡ cause.Write → ⊥) → IfBad why (λ name at. ⊥) → (s : Stop) (run rest : List (List ℕ)) (upshots : List Upshot)
    → run ++ rest ≡ lines script → Runs kind Gives first run upshots final → Ended s rest old new upshots why → GoodOrMem why
stops_well first kind Gives script old new final why granted calm fine sound at_the_end run rest upshots parts steps e =
    let all : run ≡ lines script = sym (append-nil run) ∙ ap (λ r. run ++ r) (sym e.all) ∙ parts in
    subst GoodOrMem (sym e.told) (granted upshots final (subst (λ ls. Runs kind Gives first ls upshots final) all steps) calm)
stops_well first kind Gives script old new final why granted calm fine sound at_the_sink run rest upshots parts steps e =
    subst GoodOrMem (sym e.told)
    (cut (worst upshots) (of_upshots cause.Good upshots tt) (λ x. fine (e.told ∙ x)) (uncut (worst upshots) (subst (λ w. IfBad w (λ name at. ⊥)) e.told sound)))
stops_well first kind Gives script old new final why granted calm fine sound for_memory run rest upshots parts steps e = inr e.told

-- what was read is all that was left
all_read : (left new : Option (List ℕ)) (s bytes : List ℕ) → left ≡ Some s → ReadToEnd left new bytes → bytes ≡ s
all_read None new s bytes e r = cc
all_read (Some xs) None s bytes e r = absurd r.taken
all_read (Some xs) (Some ys) s bytes e r = sym (append-nil bytes) ∙ ap (λ z. bytes ++ z) (sym r.at_end) ∙ sym r.taken ∙ same_Some xs s e

-- of good files none is blamed
none_blamed : (files : ℕ → ℕ → List (File Held)) (why : Cause) → AreGood files → IfBad why (IsBadForOne files) → IfBad why (λ name at. ⊥)
none_blamed files cause.Good good bad = tt
none_blamed files cause.Refused good bad = tt
none_blamed files cause.Write good bad = tt
none_blamed files cause.Mem good bad = tt
none_blamed files cause.Disk good bad = tt
none_blamed files cause.Words good bad = tt
none_blamed files cause.Read good bad = tt
none_blamed files (cause.TooLong taken) good bad = tt
none_blamed files (cause.Bad (file.Table number) at) good (inl bad) = ∥∥₁_elim bad.2 ⊥_prop (λ is. good.slices bad.0 number at bad.1 is)
none_blamed files (cause.Bad (file.Table number) at) good (inr bad) = good.wholes bad.0 bad.1 number at bad.2
none_blamed files (cause.Bad file.Manifest at) good bad = bad
none_blamed files (cause.Bad (file.Log number) at) good bad = bad
none_blamed files (cause.Bad (file.Import number) at) good bad = bad

module _ (words : List (List ℕ)) (Gives : ℤ → Type 0) (before after : Outside) (reads : ℕ) (c : Command) (said : command_of words ≡ Some c)
    (well : AllWell words Gives before after reads) where
  same : well.command ≡ c
  same = same_Some _ _ (sym well.words_are ∙ said)

  opens : OpensAs c.limits.shards well.entries well.mutations well.image
  opens = subst (λ (k : Command). OpensAs k.limits.shards well.entries well.mutations well.image) same well.opens

  ran_on_well : (script : List ℕ) (list : List (Item Event)) (why : Cause) (entries : List ManifestEntry) (mutations : List Mutation) (files : ℕ → ℕ → List (File Held))
      → entries ≡ well.entries → mutations ≡ well.mutations → script ≡ well.script → AreItsFiles entries before.folder files
      → RanOn c Gives script before after reads list why entries mutations well.openings files → (why ≡ cause.Write → WriteRose before after) → GoodOrMem why
  ran_on_well script list why entries mutations files one all text its ran write =
      let its_own : AreItsFiles well.entries before.folder files = subst (λ (es : List ManifestEntry). AreItsFiles es before.folder files) one its in
      let begun : Begins well.command.limits well.entries well.mutations well.openings files before.folder_faults ran.first =
      subst (λ (k : Command). Begins k.limits well.entries well.mutations well.openings files before.folder_faults ran.first) (sym same)
      (subst (λ (es : List ManifestEntry). Begins c.limits es well.mutations well.openings files before.folder_faults ran.first) one
      (subst (λ (ms : List Mutation). Begins c.limits entries ms well.openings files before.folder_faults ran.first) all ran.begins)) in
      let granted : IsGranted ran.first c.clock Gives script =
      subst (λ (k : Command). IsGranted ran.first k.clock Gives script) same
      (subst (λ (l : List ℕ). IsGranted ran.first well.command.clock Gives l) (sym text) (well.granted files its_own ran.first begun)) in
      let begins_at : ran.first.disk ≡ ran.begins.disk =
      ap (λ (h : History). h.disk) ran.begins.history ∙ first_disk c.limits entries mutations well.openings ran.begins.session ran.begins.disk in
      let stayed : IsCalm ran.first.disk ran.final.disk = (
        ap (λ (d : DiskState). d.stopped) begins_at ∙ ran.begins.going,
        λ rose.
            well.no_folder_fault
            (omega (arith, rose, ap (λ (d : DiskState). d.faults) begins_at, ran.begins.faults, ran.faults)),
        λ rose. well.no_table_fault (omega (arith, rose, ran.reads_are)),
      ) in
      let is : why ≡ ran.told = ran.ended ∙ calm before.folder_faults after.folder_faults reads ran.told well.no_folder_fault well.no_table_fault in
      let r = ran.ran in
      let good : AreGood ran.final.disk.files =
      standing_good ran.final.disk.files
      (all_stand well.entries well.mutations before.folder well.openings files its_own well.explained well.image well.reads well.of_bytes well.command.limits before.folder_faults ran.first
      begun c.clock Gives r.run r.upshots ran.final r.steps) in
      let sound : IfBad ran.told (λ name at. ⊥) = subst (λ (w : Cause). IfBad w (λ name at. ⊥)) is (none_blamed ran.final.disk.files why good ran.bad) in
      subst GoodOrMem (sym is)
      (stops_well ran.first c.clock Gives script before.taken after.taken ran.final ran.told granted stayed (λ e. well.no_write_fault (write (is ∙ e))) sound r.stop r.run r.rest r.upshots r.cut
      r.steps r.ended)

  ran_well : (script : List ℕ) (list : List (Item Event)) (why : Cause) → ReadToEnd before.left after.left script → Ran c Gives script before after reads list why
      → (why ≡ cause.Write → WriteRose before after) → GoodOrMem why
  ran_well script list why read ran write =
      let one = one_store well.image well.of_bytes c.limits.shards ran.entries well.entries ran.mutations well.mutations (ran.found.told well.image well.reads well.of_bytes) opens in
      let explained : AreOpenings ran.entries ran.mutations before.folder well.openings =
      subst (λ (es : List ManifestEntry). AreOpenings es ran.mutations before.folder well.openings) (sym one.0)
      (subst (λ (ms : List Mutation). AreOpenings well.entries ms before.folder well.openings) (sym one.1) well.explained) in
      ran_on_well script list why ran.entries ran.mutations ran.files one.0 one.1 (all_read before.left after.left well.script script well.told read) ran.its_files
      (ran.on well.openings explained (inl (well.image, well.reads, well.of_bytes))) write

  pub ends_well : (script : List ℕ) (limits : Limits) (tables : List TableSchema) (shards : List ShardState) (frontiers : List ℕ) (last live : ℕ) (journal : Journal) (mid : Disk)
      (faults : ℕ) (pass : Option (List (Item Event))) (why : Cause) → ReadToEnd before.left after.left script
      → IsStarted c.limits limits tables shards frontiers last live journal before.folder mid → before.folder_faults ≤ faults
      → (n : ℕ) → n ≡ before.folder_faults
      → ((d : Image) → before.folder.reads d → IsOfBytes d → (entries : List ManifestEntry) (mutations : List Mutation) → OpensAs c.limits.shards entries mutations d
      → AreUpTo last entries → During (SameListed entries) before.folder after.folder)
      → ((d : Image) → before.folder.reads d → IsOfBytes d → (entries : List ManifestEntry) (mutations : List Mutation) → OpensAs c.limits.shards entries mutations d
      → Tells mid)
      → ((d : Image) → before.folder.reads d → IsOfBytes d → (entries : List ManifestEntry) (mutations : List Mutation) → OpensAs c.limits.shards entries mutations d
      → During (SameListed entries) before.folder mid)
      → Serves c.clock Gives script before.taken after.taken limits tables shards frontiers last live journal mid faults n after.folder after.folder_faults reads pass why
      → (why ≡ cause.Write → WriteRose before after) → GoodOrMem why
  ends_well script limits tables shards frontiers last live journal mid faults None why read started kept n counted stay telling opening serves write = inr serves
  ends_well script limits tables shards frontiers last live journal mid faults (Some list) why read started kept n counted stay telling opening serves write =
      ran_well script list why read
      (ran_over words Gives before after c script limits tables shards frontiers last live journal mid faults reads why said read started kept n counted stay telling opening list serves) write

  readable : (name : Name) (at : ℕ) → IsUnreadable c.limits.shards before.folder name at well.image → ⊥
  readable name at (inl refused) = opens_not_bad well.image well.of_bytes c.limits.shards well.entries well.mutations opens name at refused
  readable name at (inr (es, ns, other, bad)) =
      let one = one_store well.image well.of_bytes c.limits.shards es well.entries ns well.mutations other opens in
      never_bad well.entries well.mutations before.folder well.openings name at well.explained
      (subst (λ (l : List ManifestEntry). IsBadTable l before.folder name at) one.0 bad)

  pub opens_well : (fault : RecoveryFault)
      → ((name : Name) (at : ℕ) → fault ≡ recovery.Bad name at → (i : Image) → before.folder.reads i → IsOfBytes i → IsUnreadable c.limits.shards before.folder name at i)
      → (fault ≡ recovery.Failed → Rose before.folder_faults after.folder_faults) → (fault ≡ recovery.Read → Rose 0 reads) → GoodOrMem (cause_of_opening fault)
  opens_well (recovery.Bad name at) refused failed read = absurd (readable name at (refused name at refl well.image well.reads well.of_bytes))
  opens_well recovery.Failed refused failed read = absurd (well.no_folder_fault (failed refl))
  opens_well recovery.Read refused failed read = absurd (well.no_table_fault (read refl))
  opens_well recovery.Mem refused failed read = inr refl
