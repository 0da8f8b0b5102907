use Rattle.std.proofs.Common.{sym, ap, ◌∙◌}
use Rattle.cas_streams.specs.Joined.{joined_fragment}
use Rattle.cas_partition.specs.Spots.{piece}
use Rattle.cas_partition.proofs.Going.{anywhere}
use Rattle.cas_partition.proofs.Taking.{on_ok_too}
use Rattle.cas_partition.proofs.pieces.take_in.Goals as goal

pub returns-in-Some : goal.returns-in-Some
returns-in-Some c =
    let place = c.args.place.now in
    let content = c.args.content.now in
    on_ok_too c.take_in_row.result _ _
    (λ e. e ∙ anywhere c.args.fragment.now c.in-Some.field-0 place.column place.path content
    ∙ ap (λ k. joined_fragment c.args.fragment.now (piece k place.column place.path content)) (sym c.in-Some.is))
    c.take_in_row.ensures
