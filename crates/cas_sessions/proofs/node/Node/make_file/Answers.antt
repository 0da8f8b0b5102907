use Rattle.std.proofs.Common.{◌≡◌, inl, inr, ◌<◌, ◌∙◌, ℕ, pos, true, not, List, [], length, map, None, Some, Err, refl, sym, ap, subst, arith}
use mathlib.Core.HLevel.{⊥_prop}
use Rattle.std.proofs.Math.Logic.{∥∥₁_elim, ∥∥₁_map}
use Rattle.std.specs.Arc.{arc_value}
use Rattle.std.specs.Prelude.{slice_get}
use Rattle.std.proofs.lemmas.Option.{same_Some, slice_get_read}
use Rattle.cas_atoms.specs.declared.atom.Mutation.{Mutation}
use Rattle.cas_flushing.specs.Flushed.{Flushes, head_of}
use Rattle.cas_history.specs.Items.{listed}
use Rattle.cas_history.specs.Last.{holds}
use Rattle.cas_lifecycle.specs.Books.{is_live}
use Rattle.cas_memtable.specs.Kept.{HoldJust, has_key}
use Rattle.cas_memtable.specs.declared.memtable.MemPart.{MemPart}
use Rattle.cas_refs.specs.Counts.{at}
use Rattle.cas_shard.specs.Flushing.{frozen_at, memtables_at}
use Rattle.cas_shard.specs.Stands.{ShardState}
use Rattle.cas_lasting.proofs.FlushFiles.{never_none, nothing_frozen, some_first}
use Rattle.cas_sessions.proofs.FlushMaking.{for_table, hold_too_much, is_made, its_number, more_since, never_bad, one_in_memory, quiet_reads, stands_for, told_fits, why_not_begun, why_not_written}
use Rattle.cas_sessions.proofs.FlushShard.{not_made_since}
use Rattle.cas_lasting.proofs.FlushSteps.{quiet_then}
use Rattle.cas_lasting.proofs.Listing.{up_to_twice}
use Rattle.cas_sessions.proofs.node.Node.make_file.Goals as goal

pub returns-in-Ok-None-clause-quiet : goal.returns-in-Ok-None-clause-quiet
returns-in-Ok-None-clause-quiet g c = λ session calls clock. quiet_then _ _ _ _ _ _ (c.begin_file.ensures.quiet session calls clock) (quiet_reads _ _ _ c.write_frozen.ensures.count.kept)

pub returns-in-Err-write_frozen-clause-quiet : goal.returns-in-Err-write_frozen-clause-quiet
returns-in-Err-write_frozen-clause-quiet g c = λ session calls clock. quiet_then _ _ _ _ _ _ (c.begin_file.ensures.quiet session calls clock) (quiet_reads _ _ _ c.write_frozen.ensures.count.kept)

pub returns-in-Ok-open_file-clause-quiet : goal.returns-in-Ok-open_file-clause-quiet
returns-in-Ok-open_file-clause-quiet g c = λ session calls clock. quiet_then _ _ _ _ _ _ (quiet_then _ _ _ _ _ _ (c.begin_file.ensures.quiet session calls clock) (quiet_reads _ _ _ c.write_frozen.ensures.count.kept)) (c.open_file.ensures.quiet session calls clock)

pub returns-in-Err-open_file-clause-quiet : goal.returns-in-Err-open_file-clause-quiet
returns-in-Err-open_file-clause-quiet g c = λ session calls clock. quiet_then _ _ _ _ _ _ (quiet_then _ _ _ _ _ _ (c.begin_file.ensures.quiet session calls clock) (quiet_reads _ _ _ c.write_frozen.ensures.count.kept)) (c.open_file.ensures.quiet session calls clock)

pub returns-in-Ok-None-clause-nothing : goal.returns-in-Ok-None-clause-nothing
returns-in-Ok-None-clause-nothing g c = λ t x at_t at_x.
    let n = c.begin_file.new.self in
    let sch = c.index-schema.result.now in
    let sh = c.index-shard.result.now in
    let low_t : c.args.table < length n.tables.items = subst (λ ts. c.args.table < length ts.items) (sym c.begin_file.ensures.same.2) c.requires.within.0 in
    let low_n : c.args.place < n.limits.shards = subst (λ l. c.args.place < l.shards) (sym c.begin_file.ensures.same.1) c.requires.within.1 in
    let at_sch : slice_get n.tables.items c.args.table ≡ Some sch = slice_get_read n.tables.items (length n.tables.items) c.args.table sch refl low_t c.index-schema.ensures in
    let at_sh : slice_get n.shards.items c.args.place ≡ Some sh = slice_get_read n.shards.items n.limits.shards c.args.place sh (sym n.sound.count) low_n c.index-shard.ensures in
    let now_t : slice_get n.tables.items c.args.table ≡ Some t = ap (λ ts. slice_get ts.items c.args.table) c.begin_file.ensures.same.2 ∙ at_t in
    let now_x : slice_get n.shards.items c.args.place ≡ Some x = ap (λ xs. slice_get xs.items c.args.place) c.begin_file.ensures.same.0 ∙ at_x in
    for_table n.tables.items n.shards.items t sch x sh c.args.table c.args.place now_t at_sch now_x at_sh n.sound.tables.numbered g.F.Draft.Draft.number g.F.Draft.Draft.written
    c.in-Ok.begun.0 c.in-Ok.begun.1 None c.in-Ok.ensures.number.3 c.in-Ok.ensures.empty
    (subst (λ r. (ws : List Mutation) → HoldJust sch.columns (memtables_at (slice_get sh.stores sch.number)) ws → g.F.Draft.Draft.number c.in-Ok.begun.1 ≡ c.in-Ok.begun.0
    → ((b : List ℕ) → g.F.Draft.Draft.written c.in-Ok.begun.1 b → b ≡ []) → Flushes g.F.Draft.Draft.number g.F.Draft.Draft.written sch c.args.place c.in-Ok.begun.0 (frozen_at (slice_get sh.stores sch.number)) r)
    c.in-Ok-None.field-0-is c.in-Ok-None.ensures.written)

pub returns-then-is_none-clause-nothing : goal.returns-then-is_none-clause-nothing
returns-then-is_none-clause-nothing g c = λ t x at_t at_x ws has.
    let n = c.args.self.now in
    let sh = c.index.result.now in
    let at_sh : slice_get n.shards.items c.args.place ≡ Some sh = slice_get_read n.shards.items n.limits.shards c.args.place sh (sym n.sound.count) c.requires.within.1 c.index.ensures in
    nothing_frozen t.columns n.shards.items c.args.place c.args.table sh x (map arc_value c.frozen.result.now) c.next_key.result at_sh at_x c.frozen.ensures
    (c.is_none.ensures ∙ ap not c.if-is_none.true) c.next_key.ensures

pub returns-in-Ok-None-clause-idle : goal.returns-in-Ok-None-clause-idle
returns-in-Ok-None-clause-idle g c =
    let o = c.args.self.now in
    let n = c.begin_file.new.self in
    let was = c.index.result.now in
    let sch = c.index-schema.result.now in
    let sh = c.index-shard.result.now in
    let low_t : c.args.table < length n.tables.items = subst (λ ts. c.args.table < length ts.items) (sym c.begin_file.ensures.same.2) c.requires.within.0 in
    let low_n : c.args.place < n.limits.shards = subst (λ l. c.args.place < l.shards) (sym c.begin_file.ensures.same.1) c.requires.within.1 in
    let at_sch : slice_get n.tables.items c.args.table ≡ Some sch = slice_get_read n.tables.items (length n.tables.items) c.args.table sch refl low_t c.index-schema.ensures in
    let at_sh : slice_get n.shards.items c.args.place ≡ Some sh = slice_get_read n.shards.items n.limits.shards c.args.place sh (sym n.sound.count) low_n c.index-shard.ensures in
    let at_was : slice_get o.shards.items c.args.place ≡ Some was = slice_get_read o.shards.items o.limits.shards c.args.place was (sym o.sound.count) c.requires.within.1 c.index.ensures in
    let same : was ≡ sh = same_Some was sh (sym at_was ∙ ap (λ xs. slice_get xs.items c.args.place) (sym c.begin_file.ensures.same.0) ∙ at_sh) in
    let its = its_number n.tables.items n.shards.items sch sch sh sh c.args.table c.args.place at_sch at_sch at_sh at_sh n.sound.tables.numbered in
    let there : slice_get n.tables.items sch.number ≡ Some sch = ap (λ (k : ℕ). slice_get n.tables.items k) its ∙ at_sch in
    let (key, found) = some_first (map arc_value c.frozen.result.now) c.next_key.result (c.is_none.ensures ∙ ap not c.if-is_none.false) c.next_key.ensures in
    let here : has_key (frozen_at (slice_get sh.stores c.args.table)) key ≡ true =
    subst (λ (ms : List MemPart). has_key ms key ≡ true) (c.frozen.ensures ∙ ap (λ (z : ShardState). frozen_at (slice_get z.stores c.args.table)) same) found in
    let says = returns-in-Ok-None-clause-nothing g c sch sh (ap (λ ts. slice_get ts.items c.args.table) (sym c.begin_file.ensures.same.2) ∙ at_sch)
    (ap (λ xs. slice_get xs.items c.args.place) (sym c.begin_file.ensures.same.0) ∙ at_sh) in
    absurd (∥∥₁_elim (n.kept c.args.place sch.number sh at_sh) ⊥_prop (λ k.
    let has = subst (λ (j : ℕ). HoldJust sch.columns (memtables_at (slice_get sh.stores j)) k.0) its (one_in_memory n.tables.items sch k.0 sh there k.1) in
    never_none sch.columns (slice_get sh.stores c.args.table) key k.0 has (says k.0 has) here))

pub open_file-requires-clause-fits : goal.open_file-requires-clause-fits
open_file-requires-clause-fits g c =
    let n = c.begin_file.new.self in
    let sch = c.index-schema.result.now in
    let sh = c.index-shard.result.now in
    let low_t : c.args.table < length n.tables.items = subst (λ ts. c.args.table < length ts.items) (sym c.begin_file.ensures.same.2) c.requires.within.0 in
    let low_n : c.args.place < n.limits.shards = subst (λ l. c.args.place < l.shards) (sym c.begin_file.ensures.same.1) c.requires.within.1 in
    let at_sch : slice_get n.tables.items c.args.table ≡ Some sch = slice_get_read n.tables.items (length n.tables.items) c.args.table sch refl low_t c.index-schema.ensures in
    let at_sh : slice_get n.shards.items c.args.place ≡ Some sh = slice_get_read n.shards.items n.limits.shards c.args.place sh (sym n.sound.count) low_n c.index-shard.ensures in
    let its = its_number n.tables.items n.shards.items sch sch sh sh c.args.table c.args.place at_sch at_sch at_sh at_sh n.sound.tables.numbered in
    let there : slice_get n.tables.items sch.number ≡ Some sch = ap (λ (k : ℕ). slice_get n.tables.items k) its ∙ at_sch in
    let has = ∥∥₁_map (n.kept c.args.place sch.number sh at_sh) (λ k. (k.0, subst (λ (j : ℕ). HoldJust sch.columns (memtables_at (slice_get sh.stores j)) k.0) its (one_in_memory n.tables.items sch k.0 sh there k.1))) in
    let told = told_fits g.F.Draft.Draft.number g.F.Draft.Draft.written sch c.args.place c.in-Ok.begun.0 (slice_get sh.stores c.args.table) c.in-Ok-Some.written.0 c.in-Ok-Some.written.1
    (for_table n.tables.items n.shards.items sch sch sh sh c.args.table c.args.place at_sch at_sch at_sh at_sh n.sound.tables.numbered g.F.Draft.Draft.number g.F.Draft.Draft.written c.in-Ok.begun.0
    c.in-Ok.begun.1 (Some c.in-Ok-Some.written) c.in-Ok.ensures.number.3 c.in-Ok.ensures.empty
    (subst (λ r. (ws : List Mutation) → HoldJust sch.columns (memtables_at (slice_get sh.stores sch.number)) ws → g.F.Draft.Draft.number c.in-Ok.begun.1 ≡ c.in-Ok.begun.0
    → ((b : List ℕ) → g.F.Draft.Draft.written c.in-Ok.begun.1 b → b ≡ []) → Flushes g.F.Draft.Draft.number g.F.Draft.Draft.written sch c.args.place c.in-Ok.begun.0 (frozen_at (slice_get sh.stores sch.number)) r)
    c.in-Ok-Some.field-0-is c.in-Ok-Some.ensures.written)) has in
    (told.0, told.2 ∙ sym told.1)

pub returns-in-Ok-open_file-clause-held : goal.returns-in-Ok-open_file-clause-held
returns-in-Ok-open_file-clause-held g c =
    let n = c.begin_file.new.self in
    let sch = c.index-schema.result.now in
    let sh = c.index-shard.result.now in
    let low_t : c.args.table < length n.tables.items = subst (λ ts. c.args.table < length ts.items) (sym c.begin_file.ensures.same.2) c.requires.within.0 in
    let low_n : c.args.place < n.limits.shards = subst (λ l. c.args.place < l.shards) (sym c.begin_file.ensures.same.1) c.requires.within.1 in
    let at_sch : slice_get n.tables.items c.args.table ≡ Some sch = slice_get_read n.tables.items (length n.tables.items) c.args.table sch refl low_t c.index-schema.ensures in
    let at_sh : slice_get n.shards.items c.args.place ≡ Some sh = slice_get_read n.shards.items n.limits.shards c.args.place sh (sym n.sound.count) low_n c.index-shard.ensures in
    let its = its_number n.tables.items n.shards.items sch sch sh sh c.args.table c.args.place at_sch at_sch at_sh at_sh n.sound.tables.numbered in
    let there : slice_get n.tables.items sch.number ≡ Some sch = ap (λ (k : ℕ). slice_get n.tables.items k) its ∙ at_sch in
    let has = ∥∥₁_map (n.kept c.args.place sch.number sh at_sh) (λ k. (k.0, subst (λ (j : ℕ). HoldJust sch.columns (memtables_at (slice_get sh.stores j)) k.0) its (one_in_memory n.tables.items sch k.0 sh there k.1))) in
    let told = told_fits g.F.Draft.Draft.number g.F.Draft.Draft.written sch c.args.place c.in-Ok.begun.0 (slice_get sh.stores c.args.table) c.in-Ok-Some.written.0 c.in-Ok-Some.written.1
    (for_table n.tables.items n.shards.items sch sch sh sh c.args.table c.args.place at_sch at_sch at_sh at_sh n.sound.tables.numbered g.F.Draft.Draft.number g.F.Draft.Draft.written c.in-Ok.begun.0
    c.in-Ok.begun.1 (Some c.in-Ok-Some.written) c.in-Ok.ensures.number.3 c.in-Ok.ensures.empty
    (subst (λ r. (ws : List Mutation) → HoldJust sch.columns (memtables_at (slice_get sh.stores sch.number)) ws → g.F.Draft.Draft.number c.in-Ok.begun.1 ≡ c.in-Ok.begun.0
    → ((b : List ℕ) → g.F.Draft.Draft.written c.in-Ok.begun.1 b → b ≡ []) → Flushes g.F.Draft.Draft.number g.F.Draft.Draft.written sch c.args.place c.in-Ok.begun.0 (frozen_at (slice_get sh.stores sch.number)) r)
    c.in-Ok-Some.field-0-is c.in-Ok-Some.ensures.written)) has in
    let number : c.in-Ok-Some.written.0.number ≡ c.in-Ok.begun.0 = told.1 in (
      subst (λ (k : ℕ). holds k (listed c.open_file.new.self.files.list c.open_file.new.self.files.pass.saw) ≡ true) (sym number)
          (ap (holds c.in-Ok.begun.0) c.open_file.ensures.held ∙ c.in-Ok.ensures.held),
      subst (λ (k : ℕ). is_live (at c.open_file.new.self.book.refs k) ≡ true) (sym number)
          (ap (λ b. is_live (at b.refs c.in-Ok.begun.0)) c.open_file.ensures.same.3 ∙ c.in-Ok.ensures.booked),
      omega (arith, c.open_file.ensures.same.4, c.in-Ok.ensures.room),
      omega (arith, number, c.in-Ok.ensures.number.1, ap (λ q. q.last) c.open_file.ensures.same.5),
    )

pub returns-in-Ok-open_file-clause-made : goal.returns-in-Ok-open_file-clause-made
returns-in-Ok-open_file-clause-made g c = λ t x at_t at_x.
    let n = c.begin_file.new.self in
    let sch = c.index-schema.result.now in
    let sh = c.index-shard.result.now in
    let low_t : c.args.table < length n.tables.items = subst (λ ts. c.args.table < length ts.items) (sym c.begin_file.ensures.same.2) c.requires.within.0 in
    let low_n : c.args.place < n.limits.shards = subst (λ l. c.args.place < l.shards) (sym c.begin_file.ensures.same.1) c.requires.within.1 in
    let at_sch : slice_get n.tables.items c.args.table ≡ Some sch = slice_get_read n.tables.items (length n.tables.items) c.args.table sch refl low_t c.index-schema.ensures in
    let at_sh : slice_get n.shards.items c.args.place ≡ Some sh = slice_get_read n.shards.items n.limits.shards c.args.place sh (sym n.sound.count) low_n c.index-shard.ensures in
    let now_t : slice_get n.tables.items c.args.table ≡ Some t = ap (λ ts. slice_get ts.items c.args.table) c.begin_file.ensures.same.2 ∙ at_t in
    let now_x : slice_get n.shards.items c.args.place ≡ Some x = ap (λ xs. slice_get xs.items c.args.place) c.begin_file.ensures.same.0 ∙ at_x in
    let its = its_number n.tables.items n.shards.items sch sch sh sh c.args.table c.args.place at_sch at_sch at_sh at_sh n.sound.tables.numbered in
    let there : slice_get n.tables.items sch.number ≡ Some sch = ap (λ (k : ℕ). slice_get n.tables.items k) its ∙ at_sch in
    let has = ∥∥₁_map (n.kept c.args.place sch.number sh at_sh) (λ k. (k.0, subst (λ (j : ℕ). HoldJust sch.columns (memtables_at (slice_get sh.stores j)) k.0) its (one_in_memory n.tables.items sch k.0 sh there k.1))) in
    let told = told_fits g.F.Draft.Draft.number g.F.Draft.Draft.written sch c.args.place c.in-Ok.begun.0 (slice_get sh.stores c.args.table) c.in-Ok-Some.written.0 c.in-Ok-Some.written.1
    (for_table n.tables.items n.shards.items sch sch sh sh c.args.table c.args.place at_sch at_sch at_sh at_sh n.sound.tables.numbered g.F.Draft.Draft.number g.F.Draft.Draft.written c.in-Ok.begun.0
    c.in-Ok.begun.1 (Some c.in-Ok-Some.written) c.in-Ok.ensures.number.3 c.in-Ok.ensures.empty
    (subst (λ r. (ws : List Mutation) → HoldJust sch.columns (memtables_at (slice_get sh.stores sch.number)) ws → g.F.Draft.Draft.number c.in-Ok.begun.1 ≡ c.in-Ok.begun.0
    → ((b : List ℕ) → g.F.Draft.Draft.written c.in-Ok.begun.1 b → b ≡ []) → Flushes g.F.Draft.Draft.number g.F.Draft.Draft.written sch c.args.place c.in-Ok.begun.0 (frozen_at (slice_get sh.stores sch.number)) r)
    c.in-Ok-Some.field-0-is c.in-Ok-Some.ensures.written)) has in
    let number : c.in-Ok-Some.written.0.number ≡ c.in-Ok.begun.0 = told.1 in
    is_made g.F.Draft.Draft.number g.F.Draft.Draft.written t c.args.place c.in-Ok.begun.0 (slice_get x.stores c.args.table) c.in-Ok-Some.written.0 c.in-Ok-Some.written.1
    (for_table n.tables.items n.shards.items t sch x sh c.args.table c.args.place now_t at_sch now_x at_sh n.sound.tables.numbered g.F.Draft.Draft.number g.F.Draft.Draft.written c.in-Ok.begun.0
    c.in-Ok.begun.1 (Some c.in-Ok-Some.written) c.in-Ok.ensures.number.3 c.in-Ok.ensures.empty
    (subst (λ r. (ws : List Mutation) → HoldJust sch.columns (memtables_at (slice_get sh.stores sch.number)) ws → g.F.Draft.Draft.number c.in-Ok.begun.1 ≡ c.in-Ok.begun.0
    → ((b : List ℕ) → g.F.Draft.Draft.written c.in-Ok.begun.1 b → b ≡ []) → Flushes g.F.Draft.Draft.number g.F.Draft.Draft.written sch c.args.place c.in-Ok.begun.0 (frozen_at (slice_get sh.stores sch.number)) r)
    c.in-Ok-Some.field-0-is c.in-Ok-Some.ensures.written)) _ c.args.self.now.room.numbers.last _
    (more_since t c.args.place c.in-Ok-Some.written.0 (g.F.Draft.Draft.written c.in-Ok-Some.written.1) _ _ _ _ (λ tells. (c.begin_file.ensures.quiet 0 0 (pos 0)).tells tells.0 tells.1)
    (c.in-Ok-open_file.ensures.view t x now_t now_x)) told.0 (omega (arith, number, c.in-Ok.ensures.number.0))

pub returns-in-Ok-open_file-clause-left : goal.returns-in-Ok-open_file-clause-left
returns-in-Ok-open_file-clause-left g c = λ t x at_t at_x ws just i leaves.
    let n = c.begin_file.new.self in
    let sch = c.index-schema.result.now in
    let sh = c.index-shard.result.now in
    let low_t : c.args.table < length n.tables.items = subst (λ ts. c.args.table < length ts.items) (sym c.begin_file.ensures.same.2) c.requires.within.0 in
    let low_n : c.args.place < n.limits.shards = subst (λ l. c.args.place < l.shards) (sym c.begin_file.ensures.same.1) c.requires.within.1 in
    let at_sch : slice_get n.tables.items c.args.table ≡ Some sch = slice_get_read n.tables.items (length n.tables.items) c.args.table sch refl low_t c.index-schema.ensures in
    let at_sh : slice_get n.shards.items c.args.place ≡ Some sh = slice_get_read n.shards.items n.limits.shards c.args.place sh (sym n.sound.count) low_n c.index-shard.ensures in
    let now_t : slice_get n.tables.items c.args.table ≡ Some t = ap (λ ts. slice_get ts.items c.args.table) c.begin_file.ensures.same.2 ∙ at_t in
    let now_x : slice_get n.shards.items c.args.place ≡ Some x = ap (λ xs. slice_get xs.items c.args.place) c.begin_file.ensures.same.0 ∙ at_x in
    let its = its_number n.tables.items n.shards.items sch sch sh sh c.args.table c.args.place at_sch at_sch at_sh at_sh n.sound.tables.numbered in
    let there : slice_get n.tables.items sch.number ≡ Some sch = ap (λ (k : ℕ). slice_get n.tables.items k) its ∙ at_sch in
    let has = ∥∥₁_map (n.kept c.args.place sch.number sh at_sh) (λ k. (k.0, subst (λ (j : ℕ). HoldJust sch.columns (memtables_at (slice_get sh.stores j)) k.0) its (one_in_memory n.tables.items sch k.0 sh there k.1))) in
    let told = told_fits g.F.Draft.Draft.number g.F.Draft.Draft.written sch c.args.place c.in-Ok.begun.0 (slice_get sh.stores c.args.table) c.in-Ok-Some.written.0 c.in-Ok-Some.written.1
    (for_table n.tables.items n.shards.items sch sch sh sh c.args.table c.args.place at_sch at_sch at_sh at_sh n.sound.tables.numbered g.F.Draft.Draft.number g.F.Draft.Draft.written c.in-Ok.begun.0
    c.in-Ok.begun.1 (Some c.in-Ok-Some.written) c.in-Ok.ensures.number.3 c.in-Ok.ensures.empty
    (subst (λ r. (ws : List Mutation) → HoldJust sch.columns (memtables_at (slice_get sh.stores sch.number)) ws → g.F.Draft.Draft.number c.in-Ok.begun.1 ≡ c.in-Ok.begun.0
    → ((b : List ℕ) → g.F.Draft.Draft.written c.in-Ok.begun.1 b → b ≡ []) → Flushes g.F.Draft.Draft.number g.F.Draft.Draft.written sch c.args.place c.in-Ok.begun.0 (frozen_at (slice_get sh.stores sch.number)) r)
    c.in-Ok-Some.field-0-is c.in-Ok-Some.ensures.written)) has in
    let number : c.in-Ok-Some.written.0.number ≡ c.in-Ok.begun.0 = told.1 in
    let (b, written, there) = c.in-Ok-open_file.ensures.left i leaves in
    let its =
    stands_for g.F.Draft.Draft.number g.F.Draft.Draft.written t c.args.place c.in-Ok.begun.0 (slice_get x.stores c.args.table) c.in-Ok-Some.written.0 c.in-Ok-Some.written.1
    (for_table n.tables.items n.shards.items t sch x sh c.args.table c.args.place now_t at_sch now_x at_sh n.sound.tables.numbered g.F.Draft.Draft.number g.F.Draft.Draft.written c.in-Ok.begun.0
    c.in-Ok.begun.1 (Some c.in-Ok-Some.written) c.in-Ok.ensures.number.3 c.in-Ok.ensures.empty
    (subst (λ r. (ws : List Mutation) → HoldJust sch.columns (memtables_at (slice_get sh.stores sch.number)) ws → g.F.Draft.Draft.number c.in-Ok.begun.1 ≡ c.in-Ok.begun.0
    → ((b : List ℕ) → g.F.Draft.Draft.written c.in-Ok.begun.1 b → b ≡ []) → Flushes g.F.Draft.Draft.number g.F.Draft.Draft.written sch c.args.place c.in-Ok.begun.0 (frozen_at (slice_get sh.stores sch.number)) r)
    c.in-Ok-Some.field-0-is c.in-Ok-Some.ensures.written)) ws just in
    (its.written, its.listed i b written there, its.says)

pub returns-in-Err-open_file-clause-why : goal.returns-in-Err-open_file-clause-why
returns-in-Err-open_file-clause-why g c = λ image reads have t x at_t at_x.
    let n = c.begin_file.new.self in
    let sch = c.index-schema.result.now in
    let sh = c.index-shard.result.now in
    let low_t : c.args.table < length n.tables.items = subst (λ ts. c.args.table < length ts.items) (sym c.begin_file.ensures.same.2) c.requires.within.0 in
    let low_n : c.args.place < n.limits.shards = subst (λ l. c.args.place < l.shards) (sym c.begin_file.ensures.same.1) c.requires.within.1 in
    let at_sch : slice_get n.tables.items c.args.table ≡ Some sch = slice_get_read n.tables.items (length n.tables.items) c.args.table sch refl low_t c.index-schema.ensures in
    let at_sh : slice_get n.shards.items c.args.place ≡ Some sh = slice_get_read n.shards.items n.limits.shards c.args.place sh (sym n.sound.count) low_n c.index-shard.ensures in
    let its = its_number n.tables.items n.shards.items sch sch sh sh c.args.table c.args.place at_sch at_sch at_sh at_sh n.sound.tables.numbered in
    let there : slice_get n.tables.items sch.number ≡ Some sch = ap (λ (k : ℕ). slice_get n.tables.items k) its ∙ at_sch in
    let has = ∥∥₁_map (n.kept c.args.place sch.number sh at_sh) (λ k. (k.0, subst (λ (j : ℕ). HoldJust sch.columns (memtables_at (slice_get sh.stores j)) k.0) its (one_in_memory n.tables.items sch k.0 sh there k.1))) in
    let told = told_fits g.F.Draft.Draft.number g.F.Draft.Draft.written sch c.args.place c.in-Ok.begun.0 (slice_get sh.stores c.args.table) c.in-Ok-Some.written.0 c.in-Ok-Some.written.1
    (for_table n.tables.items n.shards.items sch sch sh sh c.args.table c.args.place at_sch at_sch at_sh at_sh n.sound.tables.numbered g.F.Draft.Draft.number g.F.Draft.Draft.written c.in-Ok.begun.0
    c.in-Ok.begun.1 (Some c.in-Ok-Some.written) c.in-Ok.ensures.number.3 c.in-Ok.ensures.empty
    (subst (λ r. (ws : List Mutation) → HoldJust sch.columns (memtables_at (slice_get sh.stores sch.number)) ws → g.F.Draft.Draft.number c.in-Ok.begun.1 ≡ c.in-Ok.begun.0
    → ((b : List ℕ) → g.F.Draft.Draft.written c.in-Ok.begun.1 b → b ≡ []) → Flushes g.F.Draft.Draft.number g.F.Draft.Draft.written sch c.args.place c.in-Ok.begun.0 (frozen_at (slice_get sh.stores sch.number)) r)
    c.in-Ok-Some.field-0-is c.in-Ok-Some.ensures.written)) has in
    let its_table = its_number n.tables.items n.shards.items sch sch sh sh c.args.table c.args.place at_sch at_sch at_sh at_sh n.sound.tables.numbered in
    let was_sh : slice_get c.args.self.now.shards.items c.args.place ≡ Some sh = ap (λ xs. slice_get xs.items c.args.place) (sym c.begin_file.ensures.same.0) ∙ at_sh in
    let was_sch : slice_get c.args.self.now.tables.items sch.number ≡ Some sch = ap (λ ts. slice_get ts.items sch.number) (sym c.begin_file.ensures.same.2) ∙ there in
    let just = subst (λ (j : ℕ). HoldJust sch.columns (memtables_at (slice_get sh.stores j)) (have c.args.place sch.number sh was_sh).0) its_table
    (one_in_memory c.args.self.now.tables.items sch (have c.args.place sch.number sh was_sh).0 sh was_sch (have c.args.place sch.number sh was_sh).1) in
    not_made_since _ _ _ _ _ _ _ c.in-Err-open_file.fault (c.begin_file.ensures.quiet 0 0 (pos 0)).faults (omega (arith, (c.begin_file.ensures.quiet 0 0 (pos 0)).reads, c.write_frozen.ensures.count.kept))
    (never_bad sch c.args.place c.in-Ok-Some.written.0 (g.F.Draft.Draft.written c.in-Ok-Some.written.1) _ _ _ _ _ _ c.in-Err-open_file.fault
    ((c.begin_file.ensures.quiet 0 0 (pos 0)).tells image reads)
    (stands_for g.F.Draft.Draft.number g.F.Draft.Draft.written sch c.args.place c.in-Ok.begun.0 (slice_get sh.stores c.args.table) c.in-Ok-Some.written.0 c.in-Ok-Some.written.1
    (for_table n.tables.items n.shards.items sch sch sh sh c.args.table c.args.place at_sch at_sch at_sh at_sh n.sound.tables.numbered g.F.Draft.Draft.number g.F.Draft.Draft.written c.in-Ok.begun.0
    c.in-Ok.begun.1 (Some c.in-Ok-Some.written) c.in-Ok.ensures.number.3 c.in-Ok.ensures.empty
    (subst (λ r. (ws : List Mutation) → HoldJust sch.columns (memtables_at (slice_get sh.stores sch.number)) ws → g.F.Draft.Draft.number c.in-Ok.begun.1 ≡ c.in-Ok.begun.0
    → ((b : List ℕ) → g.F.Draft.Draft.written c.in-Ok.begun.1 b → b ≡ []) → Flushes g.F.Draft.Draft.number g.F.Draft.Draft.written sch c.args.place c.in-Ok.begun.0 (frozen_at (slice_get sh.stores sch.number)) r)
    c.in-Ok-Some.field-0-is c.in-Ok-Some.ensures.written)) (have c.args.place sch.number sh was_sh).0 just).whole
    (c.in-Err-open_file.ensures.why sch at_sch))

pub returns-in-Ok-open_file-clause-tables : goal.returns-in-Ok-open_file-clause-tables
returns-in-Ok-open_file-clause-tables g c =
    let n = c.begin_file.new.self in
    let sch = c.index-schema.result.now in
    let sh = c.index-shard.result.now in
    let low_t : c.args.table < length n.tables.items = subst (λ ts. c.args.table < length ts.items) (sym c.begin_file.ensures.same.2) c.requires.within.0 in
    let low_n : c.args.place < n.limits.shards = subst (λ l. c.args.place < l.shards) (sym c.begin_file.ensures.same.1) c.requires.within.1 in
    let at_sch : slice_get n.tables.items c.args.table ≡ Some sch = slice_get_read n.tables.items (length n.tables.items) c.args.table sch refl low_t c.index-schema.ensures in
    let at_sh : slice_get n.shards.items c.args.place ≡ Some sh = slice_get_read n.shards.items n.limits.shards c.args.place sh (sym n.sound.count) low_n c.index-shard.ensures in
    let its = its_number n.tables.items n.shards.items sch sch sh sh c.args.table c.args.place at_sch at_sch at_sh at_sh n.sound.tables.numbered in
    let there : slice_get n.tables.items sch.number ≡ Some sch = ap (λ (k : ℕ). slice_get n.tables.items k) its ∙ at_sch in
    let has = ∥∥₁_map (n.kept c.args.place sch.number sh at_sh) (λ k. (k.0, subst (λ (j : ℕ). HoldJust sch.columns (memtables_at (slice_get sh.stores j)) k.0) its (one_in_memory n.tables.items sch k.0 sh there k.1))) in
    let told = told_fits g.F.Draft.Draft.number g.F.Draft.Draft.written sch c.args.place c.in-Ok.begun.0 (slice_get sh.stores c.args.table) c.in-Ok-Some.written.0 c.in-Ok-Some.written.1
    (for_table n.tables.items n.shards.items sch sch sh sh c.args.table c.args.place at_sch at_sch at_sh at_sh n.sound.tables.numbered g.F.Draft.Draft.number g.F.Draft.Draft.written c.in-Ok.begun.0
    c.in-Ok.begun.1 (Some c.in-Ok-Some.written) c.in-Ok.ensures.number.3 c.in-Ok.ensures.empty
    (subst (λ r. (ws : List Mutation) → HoldJust sch.columns (memtables_at (slice_get sh.stores sch.number)) ws → g.F.Draft.Draft.number c.in-Ok.begun.1 ≡ c.in-Ok.begun.0
    → ((b : List ℕ) → g.F.Draft.Draft.written c.in-Ok.begun.1 b → b ≡ []) → Flushes g.F.Draft.Draft.number g.F.Draft.Draft.written sch c.args.place c.in-Ok.begun.0 (frozen_at (slice_get sh.stores sch.number)) r)
    c.in-Ok-Some.field-0-is c.in-Ok-Some.ensures.written)) has in
    let number : c.in-Ok-Some.written.0.number ≡ c.in-Ok.begun.0 = told.1 in
    let last = c.args.self.now.room.numbers.last in
    up_to_twice last last _ _ _ (omega arith) c.begin_file.ensures.tables (c.open_file.ensures.tables last (omega (arith, number, c.in-Ok.ensures.number.0)))

pub returns-in-Err-open_file-clause-tables : goal.returns-in-Err-open_file-clause-tables
returns-in-Err-open_file-clause-tables g c =
    let n = c.begin_file.new.self in
    let sch = c.index-schema.result.now in
    let sh = c.index-shard.result.now in
    let low_t : c.args.table < length n.tables.items = subst (λ ts. c.args.table < length ts.items) (sym c.begin_file.ensures.same.2) c.requires.within.0 in
    let low_n : c.args.place < n.limits.shards = subst (λ l. c.args.place < l.shards) (sym c.begin_file.ensures.same.1) c.requires.within.1 in
    let at_sch : slice_get n.tables.items c.args.table ≡ Some sch = slice_get_read n.tables.items (length n.tables.items) c.args.table sch refl low_t c.index-schema.ensures in
    let at_sh : slice_get n.shards.items c.args.place ≡ Some sh = slice_get_read n.shards.items n.limits.shards c.args.place sh (sym n.sound.count) low_n c.index-shard.ensures in
    let its = its_number n.tables.items n.shards.items sch sch sh sh c.args.table c.args.place at_sch at_sch at_sh at_sh n.sound.tables.numbered in
    let there : slice_get n.tables.items sch.number ≡ Some sch = ap (λ (k : ℕ). slice_get n.tables.items k) its ∙ at_sch in
    let has = ∥∥₁_map (n.kept c.args.place sch.number sh at_sh) (λ k. (k.0, subst (λ (j : ℕ). HoldJust sch.columns (memtables_at (slice_get sh.stores j)) k.0) its (one_in_memory n.tables.items sch k.0 sh there k.1))) in
    let told = told_fits g.F.Draft.Draft.number g.F.Draft.Draft.written sch c.args.place c.in-Ok.begun.0 (slice_get sh.stores c.args.table) c.in-Ok-Some.written.0 c.in-Ok-Some.written.1
    (for_table n.tables.items n.shards.items sch sch sh sh c.args.table c.args.place at_sch at_sch at_sh at_sh n.sound.tables.numbered g.F.Draft.Draft.number g.F.Draft.Draft.written c.in-Ok.begun.0
    c.in-Ok.begun.1 (Some c.in-Ok-Some.written) c.in-Ok.ensures.number.3 c.in-Ok.ensures.empty
    (subst (λ r. (ws : List Mutation) → HoldJust sch.columns (memtables_at (slice_get sh.stores sch.number)) ws → g.F.Draft.Draft.number c.in-Ok.begun.1 ≡ c.in-Ok.begun.0
    → ((b : List ℕ) → g.F.Draft.Draft.written c.in-Ok.begun.1 b → b ≡ []) → Flushes g.F.Draft.Draft.number g.F.Draft.Draft.written sch c.args.place c.in-Ok.begun.0 (frozen_at (slice_get sh.stores sch.number)) r)
    c.in-Ok-Some.field-0-is c.in-Ok-Some.ensures.written)) has in
    let number : c.in-Ok-Some.written.0.number ≡ c.in-Ok.begun.0 = told.1 in
    let last = c.args.self.now.room.numbers.last in
    up_to_twice last last _ _ _ (omega arith) c.begin_file.ensures.tables (c.open_file.ensures.tables last (omega (arith, number, c.in-Ok.ensures.number.0)))

pub returns-in-Err-clause-why : goal.returns-in-Err-clause-why
returns-in-Err-clause-why g c = λ image reads have t x at_t at_x.
    why_not_begun _ _ _ _ _ _ _ _ c.in-Err.fault _ c.in-Err.is c.fault_of_fresh.ensures (λ full. inl full) c.begin_file.ensures.outcome

pub returns-in-Err-write_frozen-clause-why : goal.returns-in-Err-write_frozen-clause-why
returns-in-Err-write_frozen-clause-why g c = λ image reads have t x at_t at_x.
    let n = c.begin_file.new.self in
    let sch = c.index-schema.result.now in
    let sh = c.index-shard.result.now in
    let low_t : c.args.table < length n.tables.items = subst (λ ts. c.args.table < length ts.items) (sym c.begin_file.ensures.same.2) c.requires.within.0 in
    let low_n : c.args.place < n.limits.shards = subst (λ l. c.args.place < l.shards) (sym c.begin_file.ensures.same.1) c.requires.within.1 in
    let at_sch : slice_get n.tables.items c.args.table ≡ Some sch = slice_get_read n.tables.items (length n.tables.items) c.args.table sch refl low_t c.index-schema.ensures in
    let at_sh : slice_get n.shards.items c.args.place ≡ Some sh = slice_get_read n.shards.items n.limits.shards c.args.place sh (sym n.sound.count) low_n c.index-shard.ensures in
    let now_t : slice_get n.tables.items c.args.table ≡ Some t = ap (λ ts. slice_get ts.items c.args.table) c.begin_file.ensures.same.2 ∙ at_t in
    let now_x : slice_get n.shards.items c.args.place ≡ Some x = ap (λ xs. slice_get xs.items c.args.place) c.begin_file.ensures.same.0 ∙ at_x in
    let its = its_number n.tables.items n.shards.items sch sch sh sh c.args.table c.args.place at_sch at_sch at_sh at_sh n.sound.tables.numbered in
    let there : slice_get n.tables.items sch.number ≡ Some sch = ap (λ (k : ℕ). slice_get n.tables.items k) its ∙ at_sch in
    let was_sh : slice_get c.args.self.now.shards.items c.args.place ≡ Some sh = ap (λ xs. slice_get xs.items c.args.place) (sym c.begin_file.ensures.same.0) ∙ at_sh in
    let was_sch : slice_get c.args.self.now.tables.items sch.number ≡ Some sch = ap (λ ts. slice_get ts.items sch.number) (sym c.begin_file.ensures.same.2) ∙ there in
    let ws = have c.args.place sch.number sh was_sh in
    let tally : g.F.Tally.Count.number n.tally ≡ g.F.Tally.Count.number c.args.self.now.tally = ap (λ k. g.F.Tally.Count.number k) c.begin_file.ensures.same.3 in
    why_not_written _ sch.columns (head_of sch c.args.place c.in-Ok.begun.0) (frozen_at (slice_get sh.stores sch.number)) _ _ _ _ c.in-Err-write_frozen.fault _ c.fault_of_write.ensures
    (λ of why. inr (hold_too_much n.tables.items n.shards.items t sch x sh c.args.table c.args.place now_t at_sch now_x at_sh n.sound.tables.numbered c.in-Ok.begun.0
    c.in-Err-write_frozen.fault of why))
    (c.in-Err-write_frozen.ensures.why ws.0 (one_in_memory c.args.self.now.tables.items sch ws.0 sh was_sch ws.1) c.in-Ok.ensures.number.3 c.in-Ok.ensures.empty)
    (λ e. let rose = c.write_frozen.ensures.count.rose (c.in-Err-write_frozen.is ∙ ap Err e) in omega (arith, rose, tally))
