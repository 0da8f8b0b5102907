use Rattle.std.proofs.Common.{ap, ◌∙◌, subst}
use Rattle.cas_partition.specs.Partitions.{with_spot}
use Rattle.cas_partition.specs.Inner.Rows.{flat}
use Rattle.cas_partition.specs.Inner.Runs.{with_rooms, PartlyMade}
use Rattle.cas_partition.proofs.RunLists.{all_made_in, part_made_in, made_rows, part_rows}
use Rattle.cas_partition.proofs.Taking.{either_way, on_ok_too, on_err_too}
use Rattle.cas_partition.proofs.spots.Spots.reserve.Goals as goal

pub invariant_of-self : goal.invariant_of-self
invariant_of-self c =
    either_way c.reserve_row.result _ _ _ c.reserve_row.ensures.made c.reserve_row.ensures.part
    (made_rows c.args.spot c.args.tag c.args.others.now c.self.inside.rows.entries c.reserve_row.new.rows.entries c.self.invariant)
    (part_rows c.args.spot c.args.tag c.args.others.now c.self.inside.rows.entries c.reserve_row.new.rows.entries c.self.invariant)

pub returns-clause-made : goal.returns-clause-made
returns-clause-made c =
    on_ok_too c.reserve_row.result _ _
    (λ e. all_made_in c.args.spot c.args.tag c.args.others.now c.self.inside.rows.entries c.reserve_row.new.rows.entries c.self.invariant c.requires e
    ∙ ap (λ es. with_rooms c.args.others.now (with_spot c.args.spot c.args.tag es)) c.self.view_is)
    c.reserve_row.ensures.made

pub returns-clause-part : goal.returns-clause-part
returns-clause-part c =
    on_err_too c.reserve_row.result _ _
    (λ e. subst (λ es. PartlyMade with_rooms c.args.others.now es (with_spot c.args.spot c.args.tag es) (flat c.reserve_row.new.rows.entries)) c.self.view_is
    (part_made_in c.args.spot c.args.tag c.args.others.now c.self.inside.rows.entries c.reserve_row.new.rows.entries c.self.invariant c.requires e))
    c.reserve_row.ensures.part
