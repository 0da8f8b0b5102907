use Rattle.std.proofs.Common.{ap, ◌∙◌}
use Rattle.cas_partition.specs.Inner.Runs.{joined_spot, joined_spots}
use Rattle.cas_partition.proofs.RunLists.{all_joined_in, joined_rows}
use Rattle.cas_partition.proofs.spots.Spots.join_run.Goals as goal

pub invariant_of-self : goal.invariant_of-self
invariant_of-self c =
    joined_rows c.args.spot c.args.content c.join_row.ensures.run c.self.inside.rows.entries c.join_row.new.rows.entries c.self.invariant c.join_row.ensures.is.1

pub returns : goal.returns
returns c = record {
  run = c.join_row.ensures.run;
  are = c.join_row.ensures.are;
  is = (
    c.join_row.ensures.is.0,
    all_joined_in c.args.spot c.args.content c.join_row.ensures.run c.self.inside.rows.entries c.join_row.new.rows.entries c.self.invariant c.join_row.ensures.is.0 c.join_row.ensures.is.1
        ∙ ap (λ es. joined_spots c.join_row.ensures.run (joined_spot c.args.spot c.args.content es)) c.self.view_is,
  );
}
