-- What is written of frozen memtables, by what a flush writes of memtables.
use Rattle.std.proofs.Common.{◌≡◌, ℕ, Option, None, Some, Result, Ok, Err, IfOk, IfErr, List, [], sym, subst}
use Rattle.cas_types.specs.declared.schema.Column.{Column}
use Rattle.cas_types.specs.declared.schema.TableSchema.{TableSchema}
use Rattle.cas_atoms.specs.declared.atom.Mutation.{Mutation}
use Rattle.cas_info.specs.declared.info.TableInfo.{TableInfo}
use Rattle.cas_memtable.specs.Kept.{HoldJust, HoldMutations}
use Rattle.cas_memtable.specs.declared.memtable.MemPart.{MemPart}
use Rattle.cas_tables.specs.Contents.{Partition}
use Rattle.cas_sstwrite.specs.Finished.{Finishes}
use Rattle.cas_sstwrite.specs.declared.fault.WriteFault.{WriteFault}
use Rattle.cas_flush.specs.Flushed.{FlushFault, SayWhatIsHeld, any, at_level_0}
use Rattle.cas_stored.specs.Stored.{StoredTable}
use Rattle.cas_shard.specs.Flushing.{frozen_at, memtables_at}
use Rattle.cas_flushing.specs.Flushed.{Flushes, head_of}
use Rattle.cas_flushing.proofs.Frozen.{HoldFirst, frozen_held}

module _ {D : Type 0} (number_of : D → ℕ) (wrote : D → List ℕ → Type 0) (t : TableSchema) (shard number : ℕ) (o : Option StoredTable) (ms : List MemPart)
    (same : ms ≡ frozen_at o) (draft : D) (r : Result (Option (TableInfo × D)) WriteFault) where
  -- of a draft with the number, that has taken nothing
  abbrev Given : Type 0 → Type 0
  Given X = number_of draft ≡ number → ((bytes : List ℕ) → wrote draft bytes → bytes ≡ []) → X

  -- whichever mutations are in memory, the first of them stand in these memtables
  held : (ws : List Mutation) → HoldJust t.columns (memtables_at o) ws → (first : HoldFirst t.columns (frozen_at o) ws) × HoldMutations t.columns ms first.places
  held ws just = let first = frozen_held t.columns o ws just in (first, subst (λ l. HoldMutations t.columns l first.places) (sym same) first.held)

  -- what a flush writes of these memtables, and what of the frozen ones of a table
  abbrev Wrote : List Column → Option (TableInfo × D) → Type 0
  Wrote columns q = Given ((wss : List (List Mutation)) → HoldMutations columns ms wss
      → (ps : List Partition) × SayWhatIsHeld columns ms any ps × Finishes number_of wrote columns (at_level_0 (head_of t shard number) ps) q)

  abbrev Flushed : Option (TableInfo × D) → Type 0
  Flushed q = (ws : List Mutation) → HoldJust t.columns (memtables_at o) ws → Given (Flushes number_of wrote t shard number (frozen_at o) q)

  pub written : (columns : List Column) → columns ≡ t.columns → IfOk r (Wrote columns) → IfOk r Flushed
  written columns of goes = by r (subst (λ cs. IfOk r (Wrote cs)) of goes)
    where
      by : (r : Result (Option (TableInfo × D)) WriteFault) → IfOk r (Wrote t.columns) → IfOk r Flushed
      by (Ok None) goes = λ ws just of empty.
          let first = held ws just in
          let (ps, says, none) = goes of empty first.0.places first.1 in
          subst (λ l. SayWhatIsHeld t.columns l any []) same (subst (SayWhatIsHeld t.columns ms any) none says)
      by (Ok (Some p)) goes = λ ws just of empty.
          let first = held ws just in
          let (ps, says, file) = goes of empty first.0.places first.1 in
          record { partitions = ps; says = subst (λ l. SayWhatIsHeld t.columns l any ps) same says; file = file }
      by (Err e) goes = tt

  -- why these memtables aren't written, and why the frozen ones of a table aren't
  abbrev Stopped : List Column → WriteFault → Type 0
  Stopped columns e = Given ((wss : List (List Mutation)) → HoldMutations columns ms wss → FlushFault columns (head_of t shard number) ms e)

  abbrev Why : WriteFault → Type 0
  Why e = (ws : List Mutation) → HoldJust t.columns (memtables_at o) ws → Given (FlushFault t.columns (head_of t shard number) (frozen_at o) e)

  pub unwritten : (columns : List Column) → columns ≡ t.columns → IfErr r (Stopped columns) → IfErr r Why
  unwritten columns of goes = by r (subst (λ cs. IfErr r (Stopped cs)) of goes)
    where
      by : (r : Result (Option (TableInfo × D)) WriteFault) → IfErr r (Stopped t.columns) → IfErr r Why
      by (Ok p) goes = tt
      by (Err e) goes = λ ws just of empty.
          let first = held ws just in
          subst (λ l. FlushFault t.columns (head_of t shard number) l e) same (goes of empty first.0.places first.1)
