use Rattle.std.proofs.Common.{◌≡◌, ap, ◌∙◌, rules}
use Rattle.std.specs.Int.{int_max}
use Rattle.cas_changes.specs.declared.said.ShardTimes.{ShardTimes}
use Rattle.cas_shard.proofs.Memory.{on_ok_too}
use Rattle.cas_recovery.proofs.Fills.{is_filled}
use Rattle.cas_recovery.proofs.filling.fill_shard.Goals as goal

pub returns-clause-filled : goal.returns-clause-filled
returns-clause-filled g c =
    let drawn : c.tell_times.new.self.drawn ≡ int_max c.args.filled.now.drawn c.times_of-times.result.drawn = search rules in
    let moment : c.tell_times.new.self.moment ≡ int_max c.args.filled.now.moment c.times_of-times.result.moment = search rules in
    on_ok_too c.fill_tables.result _ _
    (is_filled c.args.said.now (g.F.Folder.disk c.args.folder.now) c.args.shard c.args.filled.now c.tell_times.new.self c.fill_tables.new.filled c.tell_times.ensures.stores c.tell_times.ensures.number
    (drawn ∙ ap (λ (t : ShardTimes). int_max c.args.filled.now.drawn t.drawn) c.times_of-times.ensures)
    (moment ∙ ap (λ (t : ShardTimes). int_max c.args.filled.now.moment t.moment) c.times_of-times.ensures))
    c.fill_tables.ensures.given
