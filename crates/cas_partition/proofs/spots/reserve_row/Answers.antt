use Rattle.std.proofs.Common.{◌≡◌, Some, inr, sym, subst, rules}
use Rattle.std.specs.BTreeMap.{is_at}
use Rattle.std.specs.Map.{lookup}
use Rattle.cas_partition.specs.Spots.{row_cmp}
use Rattle.cas_partition.specs.Inner.Rows.{place_of, with_place}
use Rattle.cas_partition.specs.Inner.Runs.{with_places, PartlyMade}
use Rattle.cas_partition.proofs.RunLists.{body_is}
use Rattle.cas_partition.proofs.Taking.{on_err_too}
use Rattle.cas_partition.proofs.spots.reserve_row.Goals as goal

pub returns-in-Occupied-clause-part : goal.returns-in-Occupied-clause-part
returns-in-Occupied-clause-part c =
    let there : lookup (is_at (row_cmp c.args.spot.row)) c.args.rows.now.entries ≡ Some c.into_mut.result.now = search rules in
    on_err_too c.reserve_in.result _ _
    (λ part. inr (
      c.reserve_in.new.body,
      search rules,
      subst (λ b. PartlyMade with_places c.args.others.now b (with_place (place_of c.args.spot) c.args.tag b) c.reserve_in.new.body) (sym (body_is c.args.spot.row c.into_mut.result.now c.args.rows.now.entries there)) part,
    ))
    c.reserve_in.ensures.part
