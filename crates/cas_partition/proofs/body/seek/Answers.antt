use Rattle.std.proofs.Common.{sym, ap, ◌∙◌}
use Rattle.cas_partition.specs.Spots.{place_cmp}
use Rattle.cas_partition.proofs.FewPlaces.{one_passed}
use Rattle.cas_partition.proofs.body.seek.Goals as goal

pub loop-rest-preserved : goal.loop-rest-preserved
loop-rest-preserved c =
    one_passed c.args.place.now c.args.entries.now c.loop-rest.rest.now c.index-rest-0.result c.index-rest-0.result c.loop-rest.at c.in-len1-up.len_at_least c.index-rest-0.is c.loop-rest.invariant
    (ap (λ e. place_cmp c.args.place.now e.0) c.index-rest-0.is ∙ sym c.cmp.ensures ∙ c.in-Greater.is)
