use Rattle.std.proofs.Common.{◌≡◌, ◌<◌, ◌∙◌, ℕ, true, false, pos, length, Some, Err, sym, ap, subst, arith, refl}
use Rattle.std.specs.Prelude.{IfNone, slice_get}
use Rattle.cas_bounds.specs.ClusteringOrder.{clustering_order}
use Rattle.cas_memtable.specs.Kept.{HoldJust}
use Rattle.cas_shard.specs.Flushing.{frozen_at, memtables_at}
use Rattle.cas_lasting.specs.Flushed.{filled_with}
use Rattle.cas_sessions.specs.Inner.Flushing.{HoldsNothing}
use Rattle.cas_lasting.specs.Nodes.{AreFilled}
use Rattle.cas_lasting.proofs.FlushFiles.{holds_nothing, no_frozen}
use Rattle.cas_sessions.proofs.FlushMaking.{one_in_memory}
use Rattle.cas_sessions.proofs.FlushShard.{all_begun, flushes_quietly, flushes_then, not_made_since, quiet_fails, quiet_none_at, quiet_starves}
use Rattle.cas_sessions.proofs.FlushSound.{numbered}
use Rattle.cas_lasting.proofs.Parts.{there_at}
use Rattle.cas_lasting.proofs.FlushSteps.{quiet_just, quiet_remembers, quiet_then}
use Rattle.cas_lasting.proofs.Listing.{up_to_twice}
use Rattle.cas_lasting.proofs.TooMuch.{why_full_then}
use Rattle.cas_sessions.proofs.node.Node.flush_shard.Goals as goal

pub returns-in-Ok-eq0-clause-flushes : goal.returns-in-Ok-eq0-clause-flushes
returns-in-Ok-eq0-clause-flushes g c = λ clock t at_t.
    let n = c.args.self.now in
    let f = c.freeze.new.self in
    let number : t.number ≡ c.args.table = numbered 0 n.tables.items c.args.table t n.sound.tables.numbered at_t ∙ omega arith in
    let low : c.args.place < length f.shards.items = omega (arith, f.sound.count, ap (λ l. l.shards) c.freeze.ensures.room.1, c.requires.within.1) in
    let here = there_at f.shards.items c.args.place low in
    let y = here.0 in
    let now_t : slice_get f.tables.items c.args.table ≡ Some t = ap (λ ts. slice_get ts.items c.args.table) c.freeze.ensures.room.2 ∙ at_t in
    let frozen = c.in-Ok-eq0.ensures.frozen y here.1 in
    flushes_quietly t c.args.place _ _ _ _ _ (c.freeze.ensures.quiet _ _ clock) c.freeze.ensures.tables c.requires.going
    (omega (arith, ap (λ r. r.numbers.last) c.freeze.ensures.room.0))
    (λ image reads have.
    quiet_none_at t c.args.place _ _ _ _ (c.freeze.ensures.quiet _ _ clock) c.requires.going y c.args.table number at_t here.1 frozen.1
    (λ kept. no_frozen (clustering_order t.columns) (frozen_at (slice_get y.stores c.args.table)) (omega (arith, frozen.0)))) tt refl true refl
    (λ before full. subst (λ (k : ℕ). AreFilled (filled_with k c.args.place true before) f.shards.items) (sym number) (c.in-Ok-eq0.ensures.begun before full))
    (omega (arith, ap (λ r. r.numbers.last) c.freeze.ensures.room.0))

pub returns-in-Err-clause-flushes : goal.returns-in-Err-clause-flushes
returns-in-Err-clause-flushes g c = λ clock t at_t.
    flushes_quietly t c.args.place _ _ _ _ _ (c.freeze.ensures.quiet _ _ clock) c.freeze.ensures.tables c.requires.going
    (omega (arith, ap (λ r. r.numbers.last) c.freeze.ensures.room.0))
    (λ image reads have. quiet_starves t c.args.place _ _ _ _ (c.freeze.ensures.quiet _ _ clock) c.requires.going) tt refl false tt
    (λ before full. c.in-Err.ensures.stays before full) tt

pub returns-in-Ok-None-clause-flushes : goal.returns-in-Ok-None-clause-flushes
returns-in-Ok-None-clause-flushes g c = λ clock t at_t.
    let n = c.args.self.now in
    let f = c.freeze.new.self in
    let number : t.number ≡ c.args.table = numbered 0 n.tables.items c.args.table t n.sound.tables.numbered at_t ∙ omega arith in
    let low : c.args.place < length f.shards.items = omega (arith, f.sound.count, ap (λ l. l.shards) c.freeze.ensures.room.1, c.requires.within.1) in
    let here = there_at f.shards.items c.args.place low in
    let y = here.0 in
    let now_t : slice_get f.tables.items c.args.table ≡ Some t = ap (λ ts. slice_get ts.items c.args.table) c.freeze.ensures.room.2 ∙ at_t in
    let m = c.make_file.new.self in
    let frozen = c.in-Ok.ensures.frozen y here.1 in
    let at_m : slice_get m.shards.items c.args.place ≡ Some y = ap (λ xs. slice_get xs.items c.args.place) c.make_file.ensures.same.0 ∙ here.1 in
    let m_t : slice_get m.tables.items t.number ≡ Some t =
    ap (λ (k : ℕ). slice_get m.tables.items k) number ∙ ap (λ ts. slice_get ts.items c.args.table) c.make_file.ensures.same.2 ∙ now_t in
    let nothing : HoldsNothing t (slice_get y.stores c.args.table) =
    (subst (λ o. IfNone o ((u : _) (x : _) → slice_get f.tables.items c.args.table ≡ Some u → slice_get f.shards.items c.args.place ≡ Some x → HoldsNothing u (slice_get x.stores c.args.table)))
    c.in-Ok-None.field-0-is c.in-Ok-None.ensures.nothing) t y now_t here.1 in
    flushes_quietly t c.args.place _ _ _ _ _ (quiet_then _ _ _ _ _ _ (c.freeze.ensures.quiet _ _ clock) (c.make_file.ensures.quiet _ _ clock))
    (up_to_twice _ _ _ _ _ (c.freeze.ensures.quiet 0 0 clock).last c.freeze.ensures.tables c.make_file.ensures.tables) c.requires.going
    (omega (arith, ap (λ r. r.numbers.last) c.freeze.ensures.room.0, c.make_file.ensures.next))
    (λ image reads have.
    quiet_none_at t c.args.place _ _ _ _ (quiet_then _ _ _ _ _ _ (c.freeze.ensures.quiet _ _ clock) (c.make_file.ensures.quiet _ _ clock)) c.requires.going y c.args.table number at_t at_m frozen.1
    (λ kept.
    let ws = kept c.args.place t.number y at_m in
    holds_nothing t.columns (frozen_at (slice_get y.stores c.args.table))
    (nothing ws.0 (subst (λ (k : ℕ). HoldJust t.columns (memtables_at (slice_get y.stores k)) ws.0) number (one_in_memory m.tables.items t ws.0 y m_t ws.1))))) tt refl true refl
    (λ before full.
    subst (λ xs. AreFilled (filled_with t.number c.args.place true before) xs.items) (sym c.make_file.ensures.same.0)
    (subst (λ (k : ℕ). AreFilled (filled_with k c.args.place true before) f.shards.items) (sym number) (c.in-Ok.ensures.begun before full)))
    (let idle = (rw c.in-Ok-None.field-0-is at c.in-Ok-None.ensures.idle) in omega (arith, ap (λ r. r.numbers.last) c.freeze.ensures.room.0, idle))

pub returns-in-Ok-None-clause-going : goal.returns-in-Ok-None-clause-going
returns-in-Ok-None-clause-going g c =
    ap (λ j. j.first) (c.make_file.ensures.quiet 0 0 (pos 0)).journal ∙ ap (λ j. j.first) (c.freeze.ensures.quiet 0 0 (pos 0)).journal ∙ c.requires.going

pub returns-in-Err-make_file-clause-flushes : goal.returns-in-Err-make_file-clause-flushes
returns-in-Err-make_file-clause-flushes g c = λ clock t at_t.
    let n = c.args.self.now in
    let f = c.freeze.new.self in
    let number : t.number ≡ c.args.table = numbered 0 n.tables.items c.args.table t n.sound.tables.numbered at_t ∙ omega arith in
    let low : c.args.place < length f.shards.items = omega (arith, f.sound.count, ap (λ l. l.shards) c.freeze.ensures.room.1, c.requires.within.1) in
    let here = there_at f.shards.items c.args.place low in
    let y = here.0 in
    let now_t : slice_get f.tables.items c.args.table ≡ Some t = ap (λ ts. slice_get ts.items c.args.table) c.freeze.ensures.room.2 ∙ at_t in
    flushes_quietly t c.args.place _ _ _ _ _ (quiet_then _ _ _ _ _ _ (c.freeze.ensures.quiet _ _ clock) (c.make_file.ensures.quiet _ _ clock))
    (up_to_twice _ _ _ _ _ (c.freeze.ensures.quiet 0 0 clock).last c.freeze.ensures.tables c.make_file.ensures.tables) c.requires.going
    (omega (arith, ap (λ r. r.numbers.last) c.freeze.ensures.room.0, c.make_file.ensures.next))
    (λ image reads have.
    let read = (c.freeze.ensures.quiet 0 0 clock).tells image reads in
    quiet_fails t c.args.place _ _ _ _ (quiet_then _ _ _ _ _ _ (c.freeze.ensures.quiet _ _ clock) (c.make_file.ensures.quiet _ _ clock)) c.requires.going _ c.in-Err-make_file.fault
    (not_made_since _ _ _ _ _ _ _ c.in-Err-make_file.fault (c.freeze.ensures.quiet 0 0 clock).faults (c.freeze.ensures.quiet 0 0 clock).reads
    (c.in-Err-make_file.ensures.why read.0 read.1 (quiet_remembers _ _ _ _ (c.freeze.ensures.quiet 0 0 clock) have) t y now_t here.1))
    (why_full_then t c.args.place c.args.table _ _ _ _ _ _ y (c.freeze.ensures.quiet c.args.session.now.seat.list c.args.session.now.seat.calls clock)
    (c.make_file.ensures.quiet c.args.session.now.seat.list c.args.session.now.seat.calls clock) now_t number here.1))
    c.in-Err-make_file.ensures.own refl true (all_begun (Err c.in-Err-make_file.fault))
    (λ before full.
    subst (λ xs. AreFilled (filled_with t.number c.args.place true before) xs.items) (sym c.make_file.ensures.same.0)
    (subst (λ (k : ℕ). AreFilled (filled_with k c.args.place true before) f.shards.items) (sym number) (c.in-Ok.ensures.begun before full)))
    tt

pub take_file-requires-clause-going : goal.take_file-requires-clause-going
take_file-requires-clause-going g c =
    ap (λ j. j.first) (c.make_file.ensures.quiet 0 0 (pos 0)).journal ∙ ap (λ j. j.first) (c.freeze.ensures.quiet 0 0 (pos 0)).journal ∙ c.requires.going

pub take_file-requires-clause-new : goal.take_file-requires-clause-new
take_file-requires-clause-new g c = λ t x at_t at_x.
    let f = c.freeze.new.self in
    let was_t : slice_get f.tables.items c.args.table ≡ Some t = ap (λ ts. slice_get ts.items c.args.table) (sym c.make_file.ensures.same.2) ∙ at_t in
    let was_x : slice_get f.shards.items c.args.place ≡ Some x = ap (λ xs. slice_get xs.items c.args.place) (sym c.make_file.ensures.same.0) ∙ at_x in
    ((rw c.in-Ok-Some.field-0-is at c.in-Ok-Some.ensures.made) t x was_t was_x).new

pub returns-clause-flushes : goal.returns-clause-flushes
returns-clause-flushes g c = λ clock t at_t.
    let n = c.args.self.now in
    let f = c.freeze.new.self in
    let number : t.number ≡ c.args.table = numbered 0 n.tables.items c.args.table t n.sound.tables.numbered at_t ∙ omega arith in
    let low : c.args.place < length f.shards.items = omega (arith, f.sound.count, ap (λ l. l.shards) c.freeze.ensures.room.1, c.requires.within.1) in
    let here = there_at f.shards.items c.args.place low in
    let y = here.0 in
    let now_t : slice_get f.tables.items c.args.table ≡ Some t = ap (λ ts. slice_get ts.items c.args.table) c.freeze.ensures.room.2 ∙ at_t in
    let m = c.make_file.new.self in
    let at_m : slice_get m.shards.items c.args.place ≡ Some y = ap (λ xs. slice_get xs.items c.args.place) c.make_file.ensures.same.0 ∙ here.1 in
    let m_t : slice_get m.tables.items c.args.table ≡ Some t = ap (λ ts. slice_get ts.items c.args.table) c.make_file.ensures.same.2 ∙ now_t in
    let made = (rw c.in-Ok-Some.field-0-is at c.in-Ok-Some.ensures.made) t y now_t here.1 in
    let f_t : slice_get f.tables.items t.number ≡ Some t = ap (λ (k : ℕ). slice_get f.tables.items k) number ∙ now_t in
    flushes_then t c.args.place _ _ _ _ _ _ _ _ _ _ _ (quiet_then _ _ _ _ _ _ (c.freeze.ensures.quiet _ _ clock) (c.make_file.ensures.quiet _ _ clock))
    (up_to_twice _ _ _ _ _ (c.freeze.ensures.quiet 0 0 clock).last c.freeze.ensures.tables c.make_file.ensures.tables) c.requires.going (c.take_file.ensures.takes clock t y m_t at_m made.new)
    ((rw c.in-Ok-Some.field-0-is at c.in-Ok-Some.ensures.left) t y now_t here.1) (c.freeze.ensures.quiet 0 0 clock).last made.above
    (rw c.in-Ok-Some.field-0-is at c.in-Ok-Some.ensures.held).3 (omega (arith, ap (λ r. r.numbers.last) c.freeze.ensures.room.0, c.make_file.ensures.next))
    (λ h stands.
    let just = quiet_just _ _ _ _ (c.freeze.ensures.quiet c.args.session.now.seat.list c.args.session.now.seat.calls clock) h.unflushed stands.memory c.args.place t.number y here.1 in
    made.some (h.unflushed c.args.place t.number)
    (subst (λ (k : ℕ). HoldJust t.columns (memtables_at (slice_get y.stores k)) (h.unflushed c.args.place t.number)) number
    (one_in_memory f.tables.items t (h.unflushed c.args.place t.number) y f_t just)))
    (λ image reads have.
    let read = (c.freeze.ensures.quiet 0 0 clock).tells image reads in
    let ws = quiet_remembers _ _ _ _ (c.freeze.ensures.quiet 0 0 clock) have c.args.place t.number y here.1 in
    made.says read ws.0 (subst (λ (k : ℕ). HoldJust t.columns (memtables_at (slice_get y.stores k)) ws.0) number (one_in_memory f.tables.items t ws.0 y f_t ws.1)))
    (λ before full.
    subst (λ xs. AreFilled (filled_with t.number c.args.place true before) xs.items) (sym c.make_file.ensures.same.0)
    (subst (λ (k : ℕ). AreFilled (filled_with k c.args.place true before) f.shards.items) (sym number) (c.in-Ok.ensures.begun before full)))

pub returns-clause-going : goal.returns-clause-going
returns-clause-going g c = c.take_file.ensures.going
