-- The new file of a flush: it is written, the folder gets it, and it is opened.
use Rattle.std.proofs.Common.{◌≡◌, inl, inr, ◌<◌, ◌≤◌, ◌+◌, ℕ, List, [], ◌∷◌, ◌++◌, Option, None, Some, Result, Ok, Err, refl, sym, ap, ◌∙◌, subst, arith, append-nil}
use Rattle.std.proofs.Math.Logic.{∥∥₁_elim}
use Rattle.std.proofs.Props.{props}
use Rattle.std.specs.Prelude.{slice_get, IfSome}
use Rattle.std.proofs.lemmas.Option.{same_Some}
use mathlib.Core.HLevel.{Unit-prop}
use Rattle.cas_types.specs.declared.schema.Column.{Column}
use Rattle.cas_types.specs.declared.schema.TableSchema.{TableSchema}
use Rattle.cas_io.specs.Causes.{Rose}
use Rattle.cas_bind.specs.Tables.{AreInPlace}
use Rattle.cas_disk.specs.Disk.{Disk}
use Rattle.cas_disk.specs.declared.fault.FolderFault.{FolderFault}
use Rattle.cas_disk.specs.declared.fault.FolderFault.TheVariants as folder
use Rattle.cas_atoms.specs.declared.atom.Mutation.{Mutation}
use Rattle.cas_flush.specs.Flushed.{FlushFault}
use Rattle.cas_flushing.specs.Flushed.{Flushes, IsFlushed, IsOpened, WhyUnopened, head_of}
use Rattle.cas_flushing.specs.Laws.{StandsForThem}
use Rattle.cas_flushing.proofs.Files.{flush_stands}
use Rattle.cas_info.specs.Allowed.{FitsInfo}
use Rattle.cas_info.specs.declared.info.TableInfo.{TableInfo}
use Rattle.cas_memtable.specs.Kept.{HoldJust}
use Rattle.cas_memtable.specs.declared.memtable.MemPart.{MemPart}
use Rattle.cas_room.specs.Tables.{Begins, IsFull}
use Rattle.cas_room.specs.declared.fault.FreshFault.{FreshFault}
use Rattle.cas_room.specs.declared.fault.FreshFault.TheVariants as fresh
use Rattle.cas_shard.specs.Flushing.{HasInMemory, frozen_at, memtables_at}
use Rattle.cas_shard.specs.Stands.{ShardState, files_at}
use Rattle.cas_sstread.specs.Loading.{Held, IsNoBlock}
use Rattle.cas_sstread.specs.declared.fault.TableFault.{TableFault}
use Rattle.cas_sstread.specs.declared.fault.TableFault.TheVariants as load
use Rattle.cas_sstwrite.specs.declared.fault.WriteFault.{WriteFault}
use Rattle.cas_sstwrite.specs.declared.fault.WriteFault.TheVariants as write
use Rattle.cas_stored.specs.Stored.{StoredTable}
use Rattle.cas_tables.specs.declared.header.Header.{Header}
use Rattle.cas_view.specs.Views.{File}
use Rattle.cas_sessions.specs.declared.answer.Fault.{Fault}
use Rattle.cas_sessions.specs.declared.answer.Fault.TheVariants.{Refused, Stopped, Disk as Failed, Read, BadBlock, Mem}
use Rattle.cas_lasting.specs.Nodes.{State}
use Rattle.cas_sessions.specs.Inner.Flushing.{HasOneMore, IsMade, IsOwn, WhyNoneMore, WhyNotMade, fault_of_folder, fault_of_fresh, fault_of_load, fault_of_write}
use Rattle.cas_lasting.specs.Inner.Going.{HoldTooMuch, IsOfSize, Quiet}
use Rattle.cas_lasting.proofs.FlushFiles.{held_something}
use Rattle.cas_sessions.proofs.FlushShard.{quiet_still}
use Rattle.cas_sessions.proofs.FlushSound.{numbered}

-- ---- faults

pub own_fresh : (f : FreshFault) → IsOwn (fault_of_fresh f)
own_fresh (fresh.Full files) = tt
own_fresh fresh.Failed = tt
own_fresh fresh.Mem = tt

pub own_write : (f : WriteFault) → IsOwn (fault_of_write f)
own_write write.Failed = tt
own_write write.Order = tt
own_write (write.TooMany what limit) = tt
own_write write.Unfit = tt
own_write write.Mem = tt

pub own_folder : (f : FolderFault) → IsOwn (fault_of_folder f)
own_folder folder.Failed = tt
own_folder folder.Mem = tt

pub own_load : (f : TableFault) → IsOwn (fault_of_load f)
own_load load.ReadFault = tt
own_load (load.BadBlock number at) = tt
own_load load.Mem = tt

-- one number at most is drawn, also where no file was begun
pub next_after : {T : Type 0} (live last before now new : ℕ) (r : Result T FreshFault) → Begins live last before now r → ((IsFull live last → ⊥) → new ≡ last + 1)
    → (IsFull live last → new ≡ last) → new ≤ last + 1
next_after live last before now new (Ok x) is drawn full = omega (arith, drawn is)
next_after live last before now new (Err (fresh.Full files)) is drawn full = omega (arith, full is.0)
next_after live last before now new (Err fresh.Failed) is drawn full = omega (arith, drawn is.0)
next_after live last before now new (Err fresh.Mem) is drawn full = omega (arith, drawn is)

-- no file was begun
pub why_not_begun : {T : Type 0} (Full : Type 0) (live last before now reads reads_now : ℕ) (r : Result T FreshFault) (f : FreshFault) (x : Fault) → r ≡ Err f
    → x ≡ fault_of_fresh f → (IsFull live last → Full) → Begins live last before now r → WhyNotMade Full before now reads reads_now x
why_not_begun Full live last before now reads reads_now (Ok y) f x told same full is = absurd (cc told)
why_not_begun {T} Full live last before now reads reads_now (Err g) f x told same full is =
    let one : f ≡ g = cc in
    subst (WhyNotMade Full before now reads reads_now) (sym (same ∙ ap fault_of_fresh one)) (by g is)
  where
    by : (f : FreshFault) → Begins {T = T} live last before now (Err f) → WhyNotMade Full before now reads reads_now (fault_of_fresh f)
    by (fresh.Full files) is = (refl, full is.0)
    by fresh.Failed is = inl is.1
    by fresh.Mem is = tt

-- it wasn't written
pub why_not_written : (Full : Type 0) (columns : List Column) (header : Header) (ms : List MemPart) (faults now reads reads_now : ℕ) (e : WriteFault) (x : Fault)
    → x ≡ fault_of_write e → (IsOfSize e → FlushFault columns header ms e → Full) → FlushFault columns header ms e → (e ≡ write.Failed → Rose reads reads_now)
    → WhyNotMade Full faults now reads reads_now x
why_not_written Full columns header ms faults now reads reads_now e x same full why rose = subst (WhyNotMade Full faults now reads reads_now) (sym same) (by e full why rose)
  where
    by : (e : WriteFault) → (IsOfSize e → FlushFault columns header ms e → Full) → FlushFault columns header ms e → (e ≡ write.Failed → Rose reads reads_now)
        → WhyNotMade Full faults now reads reads_now (fault_of_write e)
    by write.Failed full why rose = inr (rose refl)
    by write.Order full why rose = absurd why
    by (write.TooMany what limit) full why rose = (refl, full tt why)
    by write.Unfit full why rose = (refl, full tt why)
    by write.Mem full why rose = tt

module _ (t : TableSchema) (shard : ℕ) (told : TableInfo) (Bytes : List ℕ → Type 0) (Tells : Type 0) (faults now reads reads_now : ℕ) where
  -- the folder didn't get it
  pub why_not_admitted : (f : FolderFault) → (f ≡ folder.Failed → Rose faults now) → WhyNoneMore t shard told Bytes Tells faults now reads reads_now (fault_of_folder f)
  why_not_admitted folder.Failed rose = rose refl
  why_not_admitted folder.Mem rose = tt

  -- it wasn't opened
  pub why_not_loaded : (f : TableFault) (bytes : Option (List ℕ)) → ((b : List ℕ) → bytes ≡ Some b → Bytes b) → (Tells → (b : List ℕ) × (bytes ≡ Some b))
      → WhyUnopened t shard told bytes f → (f ≡ load.ReadFault → Rose reads reads_now) → WhyNoneMore t shard told Bytes Tells faults now reads reads_now (fault_of_load f)
  why_not_loaded load.ReadFault bytes written tells why rose = rose refl
  why_not_loaded (load.BadBlock number at) bytes written tells why rose = λ on.
      let (b, is) = tells on in
      (b, written b is, subst (λ o. WhyUnopened t shard told o (load.BadBlock number at)) is why)
  why_not_loaded load.Mem bytes written tells why rose = tt

  pub why_not_loaded_as : (f : TableFault) (x : Fault) (v : TableSchema) (bytes : Option (List ℕ)) → x ≡ fault_of_load f → v ≡ t → ((b : List ℕ) → bytes ≡ Some b → Bytes b)
      → (Tells → (b : List ℕ) × (bytes ≡ Some b)) → WhyUnopened v shard told bytes f → (f ≡ load.ReadFault → Rose reads reads_now) → WhyNoneMore t shard told Bytes Tells faults now reads reads_now x
  why_not_loaded_as f x u' bytes is same written tells why rose =
      subst (λ (y : Fault). WhyNoneMore t shard told Bytes Tells faults now reads reads_now y) (sym is)
      (why_not_loaded f bytes written tells (subst (λ (w : TableSchema). WhyUnopened w shard told bytes f) same why) rose)

  -- a file that was just written isn't bad
  pub never_bad : (Full : Type 0) (f : Fault) → Tells → ((b : List ℕ) (e : TableFault) → Bytes b → WhyUnopened t shard told (Some b) e → IsNoBlock e) → WhyNoneMore t shard told Bytes Tells faults now reads reads_now f
      → WhyNotMade Full faults now reads reads_now f
  never_bad Full (Refused why) tells whole is = absurd is
  never_bad Full (Stopped first) tells whole is = is
  never_bad Full (Failed None) tells whole rose = inl rose
  never_bad Full (Failed (Some number)) tells whole is = is
  never_bad Full Read tells whole rose = rose
  never_bad Full (BadBlock number at) tells whole is =
      let (b, written, why) = is tells in
      whole b (load.BadBlock number at) written why
  never_bad Full Mem tells whole is = tt

-- ---- reads that fail

pub quiet_reads : (s : State) (d : Disk) (reads : ℕ) → s.reads ≤ reads → Quiet s (record s { reads = reads }) d d
quiet_reads s d reads le =
    let still = quiet_still s d in
    record {
      limits = refl;
      tables = refl;
      clock = refl;
      list = refl;
      session = refl;
      calls = refl;
      accepted = refl;
      committed = refl;
      journal = refl;
      live = refl;
      frontiers = refl;
      shards = still.shards;
      last = still.last;
      faults = still.faults;
      reads = le;
      keeps = still.keeps;
      crash = still.crash;
      tells = still.tells;
    }

-- ---- what is told of the file

if_some-prop : {X : Type 0} (o : Option X) (P : X → Type 0) → ((x : X) → IsProp (P x)) → IsProp (IfSome o P)
if_some-prop None P prop = Unit-prop
if_some-prop (Some x) P prop = prop x

-- that it may be told is shown in one way
fits-prop : (i : TableInfo) → IsProp (FitsInfo i)
fits-prop i = hlevel (props, if_some-prop)

module _ {D : Type 0} (number_of : D → ℕ) (wrote : D → List ℕ → Type 0) (t : TableSchema) (shard number : ℕ) (o : Option StoredTable) (told : TableInfo) (draft : D)
    (written : (ws : List Mutation) → HoldJust t.columns (memtables_at o) ws → IsFlushed number_of wrote t shard number (frozen_at o) told draft) where
  -- by what memory has
  pub told_fits : ∥ ((ws : List Mutation) × HoldJust t.columns (memtables_at o) ws) ∥₁ → FitsInfo told × (told.number ≡ number) × (number_of draft ≡ number)
  told_fits has =
      ∥∥₁_elim has (hlevel (props, fits-prop))
      (λ k. (flush_stands number_of wrote).told t shard number (frozen_at o) told draft (written k.0 k.1))

  -- the file stands for the memtables
  pub stands_for : (ws : List Mutation) → HoldJust t.columns (memtables_at o) ws → StandsForThem t shard (frozen_at o) told (wrote draft)
  stands_for ws has = (flush_stands number_of wrote).stands t shard number (frozen_at o) told draft (written ws has)

  module _ (Tells : Type 0) (last : ℕ) (files : List (File Held)) (more : HasOneMore t shard told (wrote draft) Tells (files_at o) files) (fits : FitsInfo told)
      (above : last < told.number) where
    pub is_made : IsMade t o Tells last told files
    is_made = record {
      new = record { fits = fits; file = more.file; are = more.are; info = more.opened.info; columns = more.opened.columns };
      above = above;
      some = λ ws has.
          let flushed = written ws has in
          held_something t.columns o flushed.partitions flushed.file.fits.few.0 flushed.says ws has;
      says = λ tells ws has tables there.
          let (b, is) = more.is_told tells in
          (stands_for ws has).opened tables b more.file there (more.written b is) (subst (λ bytes. IsOpened t shard told bytes more.file) is more.opened);
    }

-- ---- what memory has

pub one_in_memory : (tables : List TableSchema) (t : TableSchema) (o : List Mutation) (x : ShardState) → slice_get tables t.number ≡ Some t
    → ((more : List TableSchema) → HasInMemory (tables ++ more) t.number o x) → HoldJust t.columns (memtables_at (slice_get x.stores t.number)) o
one_in_memory tables t o x there has = has [] t (ap (λ (ts : List TableSchema). slice_get ts t.number) (append-nil tables) ∙ there)

-- ---- tables and shards in their places

-- the table and the shard that are looked at are those that are there
module _ (tables : List TableSchema) (xs : List ShardState) (t sch : TableSchema) (x sh : ShardState) (table place : ℕ) (at_t : slice_get tables table ≡ Some t)
    (at_sch : slice_get tables table ≡ Some sch) (at_x : slice_get xs place ≡ Some x) (at_sh : slice_get xs place ≡ Some sh) (places : AreInPlace 0 tables) where
  pub same_table : sch ≡ t
  same_table = same_Some sch t (sym at_sch ∙ at_t)

  same_place : sh ≡ x
  same_place = same_Some sh x (sym at_sh ∙ at_x)

  pub its_number : sch.number ≡ table
  its_number = numbered 0 tables table sch places at_sch ∙ omega arith

  store_is : slice_get sh.stores sch.number ≡ slice_get x.stores table
  store_is = (λ i. slice_get (same_place i).stores (its_number i))

  -- the view with one file more
  pub one_more : (told : TableInfo) (bytes : Option (List ℕ)) (Bytes : List ℕ → Type 0) (Tells : Type 0) (v : List (File Held))
      → (f : File Held) × (v ≡ files_at (slice_get sh.stores sch.number) ++ f ∷ []) × IsOpened sch place told bytes f → ((b : List ℕ) → bytes ≡ Some b → Bytes b)
      → (Tells → (b : List ℕ) × (bytes ≡ Some b)) → HasOneMore t place told Bytes Tells (files_at (slice_get x.stores table)) v
  one_more told bytes Bytes Tells v more written tells = record {
    file = more.0;
    are = more.1 ∙ ap (λ o. files_at o ++ more.0 ∷ []) store_is;
    bytes = bytes;
    opened = subst (λ (u : TableSchema). IsOpened u place told bytes more.0) same_table more.2;
    written = written;
    is_told = tells;
  }

  -- the table's memtables hold too much
  pub hold_too_much : (number : ℕ) (e : WriteFault) → IsOfSize e → FlushFault sch.columns (head_of sch place number) (frozen_at (slice_get sh.stores sch.number)) e
      → HoldTooMuch t place (frozen_at (slice_get x.stores table))
  hold_too_much number e of why = (
    number,
    e,
    of,
    subst (λ (u : TableSchema). FlushFault u.columns (head_of u place number) (frozen_at (slice_get x.stores table)) e) same_table
        (subst (λ o. FlushFault sch.columns (head_of sch place number) (frozen_at o) e) store_is why),
  )

  -- what was written, or nothing
  pub for_table : {D : Type 0} (number_of : D → ℕ) (wrote : D → List ℕ → Type 0) (number : ℕ) (draft : D) (r : Option (TableInfo × D)) → number_of draft ≡ number
      → ((b : List ℕ) → wrote draft b → b ≡ [])
      → ((ws : List Mutation) → HoldJust sch.columns (memtables_at (slice_get sh.stores sch.number)) ws → number_of draft ≡ number → ((b : List ℕ) → wrote draft b → b ≡ [])
      → Flushes number_of wrote sch place number (frozen_at (slice_get sh.stores sch.number)) r)
      → (ws : List Mutation) → HoldJust t.columns (memtables_at (slice_get x.stores table)) ws → Flushes number_of wrote t place number (frozen_at (slice_get x.stores table)) r
  for_table number_of wrote number draft r is empty written =
      subst (λ (u : TableSchema). (ws : List Mutation) → HoldJust u.columns (memtables_at (slice_get x.stores table)) ws
      → Flushes number_of wrote u place number (frozen_at (slice_get x.stores table)) r) same_table
      (subst (λ o. (ws : List Mutation) → HoldJust sch.columns (memtables_at o) ws → Flushes number_of wrote sch place number (frozen_at o) r) store_is
      (λ ws just. written ws just is empty))

-- with a folder that told what it read before
pub more_since : (t : TableSchema) (place : ℕ) (told : TableInfo) (Bytes : List ℕ → Type 0) (Tells Before : Type 0) (before files : List (File Held)) → (Before → Tells)
    → HasOneMore t place told Bytes Tells before files → HasOneMore t place told Bytes Before before files
more_since t place told Bytes Tells Before before files tells more =
    record { file = more.file; are = more.are; bytes = more.bytes; opened = more.opened; written = more.written; is_told = λ b. more.is_told (tells b) }
