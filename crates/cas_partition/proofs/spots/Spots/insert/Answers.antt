use Rattle.std.proofs.Common.{◌≡◌, ap, ◌∙◌, subst}
use Rattle.cas_partition.specs.Inner.Rows.{flat}
use Rattle.cas_partition.specs.Inner.Runs.{with_rooms, IsPart, joined_spots}
use Rattle.cas_partition.proofs.RunLists.{all_inserted, some_inserted, inserted_rows, some_rows}
use Rattle.cas_partition.proofs.Taking.{either_way, on_ok_too, on_err_too}
use Rattle.cas_partition.proofs.spots.Spots.insert.Goals as goal

pub invariant_of-self : goal.invariant_of-self
invariant_of-self c =
    either_way c.insert_row.result _ _ _ c.insert_row.ensures.made c.insert_row.ensures.part
    (inserted_rows c.args.row c.args.atoms c.self.inside.rows.entries c.insert_row.new.rows.entries c.self.invariant)
    (some_rows c.args.row c.args.atoms c.self.inside.rows.entries c.insert_row.new.rows.entries c.self.invariant)

pub returns-clause-made : goal.returns-clause-made
returns-clause-made c =
    on_ok_too c.insert_row.result _ _
    (λ e. all_inserted c.args.row c.args.atoms c.self.inside.rows.entries c.insert_row.new.rows.entries c.self.invariant c.requires e
    ∙ ap (λ es. joined_spots c.args.atoms (with_rooms c.args.atoms es)) c.self.view_is)
    c.insert_row.ensures.made

pub returns-clause-part : goal.returns-clause-part
returns-clause-part c =
    on_err_too c.insert_row.result _ _
    (λ e. subst (λ es. IsPart c.args.atoms (λ first. flat c.insert_row.new.rows.entries ≡ with_rooms first es)) c.self.view_is
    (some_inserted c.args.row c.args.atoms c.self.inside.rows.entries c.insert_row.new.rows.entries c.self.invariant c.requires e))
    c.insert_row.ensures.part
