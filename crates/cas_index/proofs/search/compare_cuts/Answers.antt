use Rattle.std.proofs.Common.{◌≡◌}
use Rattle.cas_bounds.specs.Points.{point_cmp, cut_point}
use Rattle.cas_index.proofs.SearchLaws.{points_order}
use Rattle.cas_index.proofs.search.compare_cuts.Goals as goal

pub returns : goal.returns
returns c =
    let e : c.compare_points.result ≡ point_cmp c.args.a.now.order (cut_point c.args.a.now) (cut_point c.args.b.now) =
    cc (c.as_slice.ensures, c.side.ensures, c.as_slice-2.ensures, c.side-2.ensures, c.as_slice-3.ensures, c.compare_points.ensures) in
    points_order c.args.a.now c.args.b.now c.compare_points.result e
