use Rattle.std.proofs.Common.{◌≡◌, ◌∙◌, pos, Some, refl, sym, ap, arith}
use Rattle.std.specs.Prelude.{slice_get}
use Rattle.std.proofs.lemmas.Option.{slice_get_read}
use Rattle.cas_lasting.specs.Nodes.{bytes_in}
use Rattle.cas_sessions.proofs.FlushFull.{full_keeps, settles_full, settles_idle, settles_stopped, true_of_full}
use Rattle.cas_sessions.proofs.FlushSound.{numbered}
use Rattle.cas_lasting.proofs.Going.{numbers_kept, numbers_none}
use Rattle.cas_lasting.proofs.Parts.{there_at}
use Rattle.cas_sessions.proofs.node.Node.flush_full.Goals as goal

pub returns-then-bytes-self-clause-settles : goal.returns-then-bytes-self-clause-settles
returns-then-bytes-self-clause-settles g c = λ clock image reads lasts.
    let n = c.args.self.now in
    let x = c.index.result.now in
    let at_x : slice_get n.shards.items c.args.shard ≡ Some x = slice_get_read n.shards.items n.limits.shards c.args.shard x (sym n.sound.count) c.requires.within.1 c.index.ensures in
    let full = ap (λ o. bytes_in o c.args.table) at_x ∙ sym c.bytes.ensures in
    settles_idle _ _ c.args.shard c.args.table (omega (arith, n.sound.count, c.requires.within.1)) (omega (arith, full, c.if-bytes-self.true))

pub returns-then-bytes-self-clause-numbers : goal.returns-then-bytes-self-clause-numbers
returns-then-bytes-self-clause-numbers g c = λ clock. numbers_none _ _ refl refl

pub returns-in-Some-clause-settles : goal.returns-in-Some-clause-settles
returns-in-Some-clause-settles g c = λ clock image reads lasts.
    let n = c.args.self.now in
    let x = c.index.result.now in
    let at_x : slice_get n.shards.items c.args.shard ≡ Some x = slice_get_read n.shards.items n.limits.shards c.args.shard x (sym n.sound.count) c.requires.within.1 c.index.ensures in
    let full = ap (λ o. bytes_in o c.args.table) at_x ∙ sym c.bytes.ensures in
    settles_stopped _ _ c.args.shard c.args.table _ (omega (arith, n.sound.count, c.requires.within.1)) (omega (arith, full, c.if-bytes-self.false)) (sym c.in-Some.ensures)

pub returns-in-Some-clause-idle : goal.returns-in-Some-clause-idle
returns-in-Some-clause-idle g c = λ few.
    let n = c.args.self.now in
    let x = c.index.result.now in
    let at_x : slice_get n.shards.items c.args.shard ≡ Some x = slice_get_read n.shards.items n.limits.shards c.args.shard x (sym n.sound.count) c.requires.within.1 c.index.ensures in
    let full = ap (λ o. bytes_in o c.args.table) at_x ∙ sym c.bytes.ensures in
    absurd (omega (arith, full, few, c.if-bytes-self.false))

pub returns-in-Some-clause-numbers : goal.returns-in-Some-clause-numbers
returns-in-Some-clause-numbers g c = λ clock. numbers_none _ _ refl refl

pub returns-clause-settles : goal.returns-clause-settles
returns-clause-settles g c = λ clock image reads lasts.
    let n = c.args.self.now in
    let x = c.index.result.now in
    let at_x : slice_get n.shards.items c.args.shard ≡ Some x = slice_get_read n.shards.items n.limits.shards c.args.shard x (sym n.sound.count) c.requires.within.1 c.index.ensures in
    let full = ap (λ o. bytes_in o c.args.table) at_x ∙ sym c.bytes.ensures in
    let here = there_at n.tables.items c.args.table c.requires.within.0 in
    settles_full here.0 c.args.shard c.args.table _ _ _ _ _ (c.flush_shard.ensures.flushes clock here.0 here.1) here.1
    (numbered 0 n.tables.items c.args.table here.0 n.sound.tables.numbered here.1 ∙ omega arith) (sym c.in_default.ensures)
    (omega (arith, n.sound.count, c.requires.within.1)) (omega (arith, full, c.if-bytes-self.false)) image reads lasts

pub returns-clause-idle : goal.returns-clause-idle
returns-clause-idle g c = λ few.
    let n = c.args.self.now in
    let x = c.index.result.now in
    let at_x : slice_get n.shards.items c.args.shard ≡ Some x = slice_get_read n.shards.items n.limits.shards c.args.shard x (sym n.sound.count) c.requires.within.1 c.index.ensures in
    let full = ap (λ o. bytes_in o c.args.table) at_x ∙ sym c.bytes.ensures in
    absurd (omega (arith, full, few, c.if-bytes-self.false))

pub returns-clause-crash : goal.returns-clause-crash
returns-clause-crash g c = λ clock.
    let here = there_at c.args.self.now.tables.items c.args.table c.requires.within.0 in
    full_keeps here.0 c.args.shard _ _ _ _ _ (c.flush_shard.ensures.flushes clock here.0 here.1)

pub returns-clause-tables : goal.returns-clause-tables
returns-clause-tables g c =
    let here = there_at c.args.self.now.tables.items c.args.table c.requires.within.0 in
    (c.flush_shard.ensures.flushes (pos 0) here.0 here.1).beside.during

pub returns-clause-last : goal.returns-clause-last
returns-clause-last g c =
    let here = there_at c.args.self.now.tables.items c.args.table c.requires.within.0 in
    (c.flush_shard.ensures.flushes (pos 0) here.0 here.1).beside.last

pub returns-clause-numbers : goal.returns-clause-numbers
returns-clause-numbers g c = λ clock.
    let here = there_at c.args.self.now.tables.items c.args.table c.requires.within.0 in
    let one = c.flush_shard.ensures.flushes clock here.0 here.1 in
    numbers_kept _ _ one.beside.list one.beside.count one.beside.numbers

pub returns-clause-told : goal.returns-clause-told
returns-clause-told g c =
    let here = there_at c.args.self.now.tables.items c.args.table c.requires.within.0 in
    let one = c.flush_shard.ensures.flushes (pos 0) here.0 here.1 in
    true_of_full c.flush_shard.result _ _ one.own one.beside.list

pub returns-clause-counts : goal.returns-clause-counts
returns-clause-counts g c =
    let here = there_at c.args.self.now.tables.items c.args.table c.requires.within.0 in
    let one = c.flush_shard.ensures.flushes (pos 0) here.0 here.1 in
    (one.beside.calls, one.beside.accepted)
