use Rattle.std.proofs.Common.{◌≡◌, List, [], Vec, Global, sym, subst}
use Rattle.cas_atoms.specs.declared.atom.Mutation.{Mutation}
use Rattle.cas_replay.specs.Replays.{IsReplayOf}
use Rattle.cas_replay.specs.declared.tops.Tops.{Tops}
use Rattle.cas_replay.proofs.Answering.{all_handed, fault_handed}
use Rattle.cas_replay.proofs.log.replay.Goals as goal

pub returns-in-Ok-clause-exact : goal.returns-in-Ok-clause-exact
returns-in-Ok-clause-exact g c image read = all_handed _ _ (c.in-Ok.ensures.exact [] c.new-mutations.ensures.items image read)

pub returns-in-Ok-clause-replayed : goal.returns-in-Ok-clause-replayed
returns-in-Ok-clause-replayed g c =
    let (given, is, replayed, noted) = c.in-Ok.ensures.replayed [] c.new-mutations.ensures.items in
    subst (λ (l : List Mutation). IsReplayOf c.args.tables.now c.args.shards c.args.segments.now c.args.frontiers.now (g.F.Folder.disk c.args.folder.now) l) (sym is) replayed

pub returns-in-Err-clause-exact : goal.returns-in-Err-clause-exact
returns-in-Err-clause-exact g c image read =
    fault_handed Tops (λ (v : Vec Mutation Global). v.items) (λ (l : List Mutation). c.replay_to.new.taker.items ≡ l) c.in-Err.fault _
    (c.in-Err.ensures.exact [] c.new-mutations.ensures.items image read)
