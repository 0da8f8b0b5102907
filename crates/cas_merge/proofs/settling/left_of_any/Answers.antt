use Rattle.std.proofs.Common.{◌≡◌, sym, ap, ◌∙◌}
use Rattle.cas_cell.specs.Deletions.{deletion_cmp}
use Rattle.cas_atoms.specs.Greatest.{greater}
use Rattle.cas_streams.specs.Flat.{own}
use Rattle.cas_streams.specs.Settled.{if_said, bare_row, left_of as left}
use Rattle.cas_streams.specs.declared.fragment.Fragment.TheVariants as fragment
use Rattle.cas_merge.proofs.settling.left_of_any.Goals as goal

pub returns-in_ok-bare_row-in-Row : goal.returns-in_ok-bare_row-in-Row
returns-in_ok-bare_row-in-Row c =
    let e : c.in_ok-bare_row-in-Row.field-0 ≡ bare_row (greater deletion_cmp c.args.top c.args.now) c.in-Row.r =
    c.in_ok-bare_row-in-Row.ensures ∙ ap (λ o. bare_row o c.in-Row.r) c.greater_deletion.ensures in
    c.row_left.ensures ∙ ap (λ s. if_said (own (fragment.Row s)) (fragment.Row s)) e ∙ sym (ap (left c.args.top c.args.now) c.in-Row.is)
