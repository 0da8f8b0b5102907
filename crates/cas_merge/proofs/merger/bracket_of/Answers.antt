use Rattle.std.proofs.Common.{arith, sym, ap, ◌∙◌}
use Rattle.std.specs.Vec.Iter.{into_iter_items}
use Rattle.cas_merge.specs.Inner.Begun.{begun}
use Rattle.cas_merge.specs.Inner.Mergers.{rooms}
use Rattle.cas_merge.proofs.Entering.{none_in, one_more, all_in}
use Rattle.cas_merge.proofs.merger.bracket_of.Goals as goal

pub loop-source-init : goal.loop-source-init
loop-source-init g c = (
  tt,
  omega (arith, ap (rooms g.I.FragmentSource.at_most) c.into_iter-rest.ensures.rest),
  λ ss told. none_in g.I.FragmentSource.to_come g.I.FragmentSource.over_all ss (into_iter_items c.into_iter-rest.result) c.args.sources.items c.into_iter-rest.ensures.rest told,
)

pub loop-source-preserved : goal.loop-source-preserved
loop-source-preserved g c =
    let e = sym c.in-Some.ensures in (
      c.in-Ok.ensures.fresh,
      omega (arith, c.loop-source.invariant.1, c.in-Ok.ensures.room, ap (rooms g.I.FragmentSource.at_most) e),
      λ ss told. one_more g.I.FragmentSource.to_come g.I.FragmentSource.over_all c.loop-source.bracket c.enter.new.self c.in-Some.source (into_iter_items c.loop-source.rest) (into_iter_items c.first_of.new.rest) ss e
          c.in-Ok.ensures.told (c.loop-source.invariant.2 ss told),
    )

pub returns-clause-told : goal.returns-clause-told
returns-clause-told g c ss told =
    all_in g.I.FragmentSource.to_come g.I.FragmentSource.over_all c.loop-source.bracket (into_iter_items c.loop-source.rest) ss
    (sym c.first_of.ensures ∙ ap (λ r. begun r (into_iter_items c.first_of.new.rest)) c.in_default.is) (c.loop-source.invariant.2 ss told)
