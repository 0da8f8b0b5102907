use Rattle.std.proofs.Common.{[], sym, ◌∙◌, subst}
use Rattle.std.specs.Vec.Iter.{into_iter_items}
use Rattle.cas_partition.specs.Partitions.{HavePlaces}
use Rattle.cas_partition.specs.Inner.Firsts.{with_first}
use Rattle.cas_partition.proofs.Lists.{single_joined, first_there}
use Rattle.cas_partition.proofs.RunsKept.{run_is_joined}
use Rattle.cas_partition.proofs.Taking.{whole_joins, range_joins}
use Rattle.cas_partition.proofs.partition.Partition.apply_run.Goals as goal

pub returns-in-Whole : goal.returns-in-Whole
returns-in-Whole c = record {
  run = [];
  are = sym c.first_of.ensures;
  is = single_joined c.args.atom c.args.self.now _ c.requires.0
      (whole_joins c.args.atom c.args.self.now c.greater_deletion-self.result c.in-Whole.d (sym c.given.ensures ∙ c.in-Whole.is) c.greater_deletion-self.ensures);
}

pub returns-in-Range : goal.returns-in-Range
returns-in-Range c = record {
  run = [];
  are = sym c.first_of-in-Range.ensures;
  is = single_joined c.args.atom c.args.self.now _ c.requires.0
      (range_joins c.args.atom c.in-Range.lo c.in-Range.hi c.in-Range.d (sym c.given.ensures ∙ c.in-Range.is) c.args.self.now c.raise.new.self c.raise.ensures c.requires.0);
}

pub returns-in-At : goal.returns-in-At
returns-in-At c =
    let run = c.join_run.ensures.run in
    record {
      run = run;
      are = c.join_run.ensures.are;
      is = run_is_joined c.args.atom c.in-At.spot c.in-At.content run c.args.self.now c.join_run.new.self (sym c.given.ensures ∙ c.in-At.is) c.join_run.ensures.is.0 c.join_run.ensures.is.1
          (c.requires.0, first_there run (with_first c.join_run.result (into_iter_items c.join_run.new.rest)) c.args.self.now (subst (HavePlaces c.args.self.now) c.join_run.ensures.are c.requires.1));
    }
