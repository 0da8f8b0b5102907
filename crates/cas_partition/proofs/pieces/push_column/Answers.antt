use Rattle.std.proofs.Common.{◌≡◌, true, [], ◌∷◌, ◌++◌, sym, ap, ◌∙◌}
use Rattle.cas_partition.specs.Inner.Pieces.{are_below}
use Rattle.cas_partition.proofs.Going.{goes_on}
use Rattle.cas_partition.proofs.pieces.push_column.Goals as goal

pub returns : goal.returns
returns c =
    let n = c.in-Some.number in
    let below : are_below c.args.row.now.columns n ≡ true = ap (λ l. are_below l n) (sym c.as_slice.ensures) ∙ sym c.are_below.ensures ∙ c.if-not-are_below.false in
    goes_on c.args.row.now c.args.place.now.column c.args.place.now.path c.args.content.now n c.from_vec.result c.in-Some.is below
    (c.from_vec.ensures ∙ c.in_ok-push.ensures.items ∙ (λ i. (c.into_vec-columns.ensures ∙ c.replace.ensures.value) i ++ c.in_ok-column.ensures i ∷ []))
