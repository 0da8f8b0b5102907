use Rattle.std.proofs.Common.{rules}
use Rattle.std.specs.List.{AllByRecursion}
use Rattle.cas_partition.specs.Inner.Runs.{IsInRow}
use Rattle.cas_partition.proofs.Taking.{on_ok_too, on_err_too}
use Rattle.cas_partition.proofs.RunsKept.{run_inserted, some_made}
use Rattle.cas_partition.proofs.partition.Partition.insert_all.Goals as goal

pub returns-in-Some-clause-joins : goal.returns-in-Some-clause-joins
returns-in-Some-clause-joins c =
    let of : AllByRecursion (IsInRow c.in-Some.row) c.args.atoms = search rules in
    on_ok_too c.insert.result _ _ (run_inserted c.in-Some.row c.args.atoms c.args.self.now c.insert.new.self of) c.insert.ensures.made

pub returns-in-Some-clause-makes : goal.returns-in-Some-clause-makes
returns-in-Some-clause-makes c =
    let of : AllByRecursion (IsInRow c.in-Some.row) c.args.atoms = search rules in
    on_err_too c.insert.result _ _ (some_made c.in-Some.row c.args.atoms c.args.self.now c.insert.new.self of) c.insert.ensures.part
