use Rattle.std.proofs.Common.{◌≡◌, ◌∷◌, sym, ap, ◌∙◌, subst}
use Rattle.std.specs.List.Sorted.{IsStrictlySortedBy}
use Rattle.std.specs.Map.{keys_of}
use Rattle.cas_partition.specs.Spots.{row_cmp}
use Rattle.cas_partition.specs.Inner.Lent.{static_rows}
use Rattle.cas_partition.proofs.Statics.{static_absent, static_there, row_there, row_absent}
use Rattle.cas_partition.proofs.lending.static_row.Goals as goal

pub returns-then-is_some : goal.returns-then-is_some
returns-then-is_some c =
    let is : c.args.rows.now.entries ≡ (c.in_ok-key.key.now, c.in_ok-key.body.now) ∷ c.next.new.self = sym c.iter-all.ensures.rest ∙ c.in_ok-key.ensures.steps in
    sym (ap static_rows is
    ∙ static_absent (c.in_ok-key.key.now, c.in_ok-key.body.now) c.next.new.self (subst (λ l. IsStrictlySortedBy row_cmp (keys_of l)) is c.iter-all.ensures.ordered)
    (row_there c.row.result.now c.in_ok-key.key.now c.is_some.result c.row.ensures c.is_some.ensures c.if-is_some.true))

pub returns : goal.returns
returns c =
    let is : c.args.rows.now.entries ≡ (c.in_ok-key.key.now, c.in_ok-key.body.now) ∷ c.next.new.self = sym c.iter-all.ensures.rest ∙ c.in_ok-key.ensures.steps in
    sym (ap static_rows is
    ∙ static_there (c.in_ok-key.key.now, c.in_ok-key.body.now) c.next.new.self (subst (λ l. IsStrictlySortedBy row_cmp (keys_of l)) is c.iter-all.ensures.ordered)
    (row_absent c.row.result.now c.in_ok-key.key.now c.is_some.result c.row.ensures c.is_some.ensures c.if-is_some.false))
