use Rattle.std.proofs.Common.{max, sym, ap, ◌∙◌, subst}
use Rattle.cas_listed.specs.Listed.{AreLoaded}
use Rattle.cas_recovery.specs.Inner.Filling.{IsBadOf}
use Rattle.cas_recovery.proofs.Fills.{bad_of, is_given}
use Rattle.cas_recovery.proofs.filling.fill_table.Goals as goal

pub returns-in-Err-clause-bad : goal.returns-in-Err-clause-bad
returns-in-Err-clause-bad g c image read =
    subst (IsBadOf c.args.said.now image c.args.table.now c.args.shard) (sym c.of_listed.ensures)
    (bad_of c.args.said.now image c.args.table.now c.args.shard c.listed-listed.result.now c.in-Err.fault c.listed-listed.ensures (λ number at is. c.in-Err.ensures.bad number at (cc) image read))

pub returns-in-Ok-adopt-clause-given : goal.returns-in-Ok-adopt-clause-given
returns-in-Ok-adopt-clause-given g c =
    is_given c.args.said.now (g.F.Folder.disk c.args.folder.now) c.args.shard c.args.table.now c.in-Ok.view c.args.filled.now c.tell_number.new.self c.adopt.new.self c.tell_number.ensures.stores c.in-Ok-adopt.ensures.taken
    (λ image read. subst (λ infos. AreLoaded c.args.table.now c.args.shard image infos c.in-Ok.view) c.listed-listed.ensures (c.in-Ok.ensures.loaded image read))
    (c.in-Ok.ensures.infos.0 ∙ c.listed-listed.ensures) c.in-Ok.ensures.columns
    (c.adopt.ensures.number ∙ c.tell_number.ensures.number ∙ ap (λ k. max c.args.filled.now.number k) c.frontier.ensures) (c.adopt.ensures.drawn ∙ c.tell_number.ensures.drawn)
    (c.adopt.ensures.moment ∙ c.tell_number.ensures.moment) c.adopt.ensures.memory c.adopt.ensures.bytes
