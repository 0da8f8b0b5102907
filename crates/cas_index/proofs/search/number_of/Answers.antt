use Rattle.std.proofs.Common.{ℕ, List, sym, ap, ◌∙◌}
use Rattle.std.specs.Ordering.{is_eq}
use Rattle.cas_types.specs.Values.{bytes_cmp}
use Rattle.cas_index.proofs.SearchLaws.{got, none_behind, has_key, no_key}
use Rattle.cas_index.proofs.search.number_of.Goals as goal

pub returns-in_err-partition : goal.returns-in_err-partition
returns-in_err-partition c =
    none_behind c.args.partitions.now c.args.key.now c.count_below-number.result c.from_residual.result c.from_residual.ensures c.count_below-number.ensures
    c.in_err-partition.ensures.lookup.3

pub returns-then-is_eq : goal.returns-then-is_eq
returns-then-is_eq c =
    has_key c.args.partitions.now c.args.key.now c.count_below-number.result c.in_ok-partition.partition.now
    (got c.args.partitions.now c.count_below-number.result c.in_ok-partition.partition.now c.in_ok-partition.ensures.lookup.3.0 c.in_ok-partition.ensures.lookup.3.1)
    (ap (λ (x : List ℕ). is_eq (bytes_cmp x c.args.key.now)) (sym c.as_slice.ensures) ∙ ap is_eq (sym c.compare_bytes.ensures) ∙ sym c.is_eq.ensures ∙ c.if-is_eq.true)

pub returns-else-is_eq : goal.returns-else-is_eq
returns-else-is_eq c =
    no_key c.args.partitions.now c.args.key.now c.count_below-number.result c.in_ok-partition.partition.now c.requires c.count_below-number.ensures
    (got c.args.partitions.now c.count_below-number.result c.in_ok-partition.partition.now c.in_ok-partition.ensures.lookup.3.0 c.in_ok-partition.ensures.lookup.3.1)
    (ap (λ (x : List ℕ). is_eq (bytes_cmp x c.args.key.now)) (sym c.as_slice.ensures) ∙ ap is_eq (sym c.compare_bytes.ensures) ∙ sym c.is_eq.ensures ∙ c.if-is_eq.false)
