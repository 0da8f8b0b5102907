use Rattle.std.proofs.Common.{ap}
use Rattle.std.specs.Prelude.{option_map}
use Rattle.cas_atoms.specs.declared.row.PathCell.{PathCell}
use Rattle.cas_fragments.proofs.columns.last_path.Goals as goal

pub returns-in-Some : goal.returns-in-Some
returns-in-Some c =
    let e = ap (option_map (λ (x : PathCell). x.path)) c.in-Some.ensures.value in
    cc (e, c.as_slice.ensures)

pub returns-in-None : goal.returns-in-None
returns-in-None c = ap (option_map (λ (x : PathCell). x.path)) c.in-None.ensures.value
