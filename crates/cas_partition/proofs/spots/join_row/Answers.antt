use Rattle.std.proofs.Common.{[], sym, ap, ◌∙◌}
use Rattle.std.specs.BTreeMap.{is_at}
use Rattle.std.specs.Map.{lookup}
use Rattle.cas_partition.specs.Spots.{row_cmp}
use Rattle.cas_partition.specs.Inner.Fronts.{row_total}
use Rattle.cas_partition.specs.Inner.Rows.{place_of, body_of, joined_place}
use Rattle.cas_partition.proofs.RowLists.{set_none}
use Rattle.cas_partition.proofs.spots.join_row.Goals as goal

pub returns-in-None : goal.returns-in-None
returns-in-None c = record {
  run = [];
  are = sym c.first_of.ensures;
  is = (
    tt,
    ap (λ m. m.entries) c.get_mut.follows.holds-at-none
        ∙ sym (set_none row_total c.args.spot.row (joined_place (place_of c.args.spot) c.args.content (body_of c.args.spot.row c.args.rows.now.entries)) c.args.rows.now.entries (ap (λ k. lookup (is_at (row_cmp k)) c.args.rows.now.entries) (sym c.of-key.ensures) ∙ sym c.in-None.ensures.value)),
  );
}
