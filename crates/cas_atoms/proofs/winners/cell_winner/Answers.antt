use Rattle.std.proofs.Common.{ap, ◌∙◌, Option}
use Rattle.cas_cell.specs.Cells.{cell_at}
use Rattle.cas_cell.specs.declared.cell.Cell.{Cell}
use Rattle.cas_cell.specs.declared.deletion.Deletion.{Deletion}
use Rattle.cas_cell.proofs.OrderLaws.{cell_laws}
use Rattle.cas_atoms.specs.Inner.Places.{row_at}
use Rattle.cas_atoms.specs.Coordinates.{path, cell_at_path}
use Rattle.cas_atoms.specs.Winners.{cover, standing}
use Rattle.cas_atoms.specs.declared.atom.Atom.{Atom}
use Rattle.cas_atoms.proofs.GreatestLemmas.{greatest_step}
use Rattle.cas_atoms.proofs.winners.cell_winner.Goals as goal

pub loop-atom-preserved : goal.loop-atom-preserved
loop-atom-preserved c =
    let x = path (row_at c.args.place) c.args.place.number c.args.bytes.now in
    greatest_step cell_laws.orders (λ (a : Atom). standing cell_at (cover c.args.atoms.now x) (cell_at_path x a)) _ _ _ _ _ _ c.loop-atom-test.true c.atom-item.is c.loop-atom.invariant
    (c.standing_cell.ensures ∙ ap (λ (w : Option Cell). standing cell_at c.path_cover-over.result w) c.cell_at_path.ensures ∙ ap (λ (d : Option Deletion). standing cell_at d (cell_at_path x c.atom-item.result)) c.path_cover-over.ensures) c.greater_cell-best.ensures
