use Rattle.std.proofs.Common.{ap, ◌∙◌, Option}
use Rattle.cas_cell.specs.Lives.{live_at}
use Rattle.cas_cell.specs.declared.deletion.Deletion.{Deletion}
use Rattle.cas_cell.specs.declared.liveness.Liveness.{Liveness}
use Rattle.cas_cell.proofs.OrderLaws.{live_laws}
use Rattle.cas_atoms.specs.Coordinates.{row, live_at_row}
use Rattle.cas_atoms.specs.Winners.{cover, standing}
use Rattle.cas_atoms.specs.declared.atom.Atom.{Atom}
use Rattle.cas_atoms.proofs.GreatestLemmas.{greatest_step}
use Rattle.cas_atoms.proofs.winners.live_winner.Goals as goal

pub loop-atom-preserved : goal.loop-atom-preserved
loop-atom-preserved c =
    let over = cover c.args.atoms.now (row c.args.values.now) in
    greatest_step live_laws.orders (λ (a : Atom). standing live_at over (live_at_row c.args.values.now a)) _ _ _ _ _ _ c.loop-atom-test.true c.atom-item.is c.loop-atom.invariant
    (c.standing_live.ensures ∙ ap (λ (l : Option Liveness). standing live_at c.row_cover-over.result l) c.live_at_row.ensures ∙ ap (λ (d : Option Deletion). standing live_at d (live_at_row c.args.values.now c.atom-item.result)) c.row_cover-over.ensures) c.greater_live-best.ensures
