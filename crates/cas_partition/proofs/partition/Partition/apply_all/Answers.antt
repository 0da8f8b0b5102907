use Rattle.std.proofs.Common.{◌∷◌, ap, ◌∙◌, subst}
use Rattle.std.specs.Vec.Iter.{into_iter_items}
use Rattle.cas_partition.specs.Inner.Firsts.{with_first}
use Rattle.cas_partition.proofs.Lists.{Joining, joining, run_joined, all_joined}
use Rattle.cas_partition.proofs.partition.Partition.apply_all.Goals as goal

pub loop-next-init : goal.loop-next-init
loop-next-init c =
    joining c.args.atoms (with_first c.first_of-next.result (into_iter_items c.first_of-next.new.rest)) c.args.self.now
    (c.first_of-next.ensures ∙ c.into_iter-rest.ensures.rest ∙ c.into_vec.ensures) c.requires

pub loop-next-preserved : goal.loop-next-preserved
loop-next-preserved c =
    let later = with_first c.apply_run-next.result (into_iter_items c.apply_run-next.new.rest) in
    let run = c.apply_run-next.ensures.run in
    run_joined c.args.atoms (c.in-Some.atom ∷ run) later c.args.self.now c.loop-next.self c.apply_run-next.new.self
    (subst (λ l. Joining c.args.atoms l c.args.self.now c.loop-next.self)
    (ap (λ n. with_first n (into_iter_items c.loop-next.rest)) c.in-Some.is ∙ ap (λ l. c.in-Some.atom ∷ l) c.apply_run-next.ensures.are) c.loop-next.invariant)
    c.apply_run-next.ensures.is

pub returns : goal.returns
returns c =
    all_joined c.args.atoms (with_first c.loop-next.next (into_iter_items c.loop-next.rest)) c.args.self.now c.loop-next.self
    (ap (λ n. with_first n (into_iter_items c.loop-next.rest)) c.in_default.is) c.loop-next.invariant
