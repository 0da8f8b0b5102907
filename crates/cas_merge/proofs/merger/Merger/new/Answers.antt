use Rattle.std.proofs.Common.{refl, ap, ◌∙◌}
use Rattle.cas_cell.specs.Deletions.{deletion_cmp}
use Rattle.cas_atoms.specs.Greatest.{greatest}
use Rattle.cas_streams.specs.Merged.{merged}
use Rattle.cas_merge.proofs.Tops.{top_told, tells_merge}
use Rattle.cas_merge.proofs.merger.Merger.new.Goals as goal

pub returns-clause-top : goal.returns-clause-top
returns-clause-top g c ss told =
    c.greatest_top.ensures ∙ ap (greatest deletion_cmp g.I.FragmentSource.over_all) c.deref.ensures.value ∙ top_told g.I.FragmentSource.to_come g.I.FragmentSource.over_all c.args.sources.items ss told

pub returns-clause-fragments : goal.returns-clause-fragments
returns-clause-fragments g c ss told =
    tells_merge g.I.FragmentSource.to_come g.I.FragmentSource.over_all c.greatest_top.result c.args.sources.items ss told
    (c.greatest_top.ensures ∙ ap (greatest deletion_cmp g.I.FragmentSource.over_all) c.deref.ensures.value ∙ top_told g.I.FragmentSource.to_come g.I.FragmentSource.over_all c.args.sources.items ss told)

pub returns-clause-begins : goal.returns-clause-begins
returns-clause-begins g c ss told = ((merged ss).fragments, returns-clause-fragments g c ss told, refl)
