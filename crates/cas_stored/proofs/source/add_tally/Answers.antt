use Rattle.std.proofs.Common.{◌<◌, ◌^◌, arith, sym, subst, ◌∙◌}
use Rattle.cas_stored.proofs.Tallying.{file_counts, memory_counts, is_file, is_memory}
use Rattle.cas_stored.proofs.source.add_tally.Goals as goal

pub returns-in_default-clause-count : goal.returns-in_default-clause-count
returns-in_default-clause-count g c =
    let m = is_memory c.args.source (sym c.into_file.ensures ∙ c.in_default.is) in
    memory_counts _ _ c.args.source m.0 _ m.1

pub returns-in-Some-clause-count : goal.returns-in-Some-clause-count
returns-in-Some-clause-count g c =
    file_counts _ _ c.args.source _ _ _ _ (is_file c.args.source c.in-Some.file (sym c.into_file.ensures ∙ c.in-Some.is))
    (subst (λ n. n < 2 ^ 64) c.faults-before.ensures.number (omega arith)) c.add.ensures.sum c.end.ensures.count
