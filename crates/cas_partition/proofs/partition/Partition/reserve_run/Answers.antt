use Rattle.std.proofs.Common.{◌≡◌, take, drop, inl, inr, sym, ap, ◌∙◌, subst}
use Rattle.std.proofs.lemmas.List.{take-append-drop}
use Rattle.cas_partition.specs.Placed.{wanted}
use Rattle.cas_partition.specs.Partitions.{with_spot}
use Rattle.cas_partition.specs.Inner.Runs.{with_rooms, PartlyMade}
use Rattle.cas_partition.specs.declared.spot.Room.TheVariants as wants
use Rattle.cas_partition.proofs.Lists.{first_made, single_made}
use Rattle.cas_partition.proofs.RunsKept.{run_placed, run_partly}
use Rattle.cas_partition.proofs.Slots.{on_err}
use Rattle.cas_partition.proofs.Taking.{same_changes, one_cut, both_cuts, cuts_there}
use Rattle.cas_partition.proofs.partition.Partition.reserve_run.Goals as goal

pub returns-in_err-reserve_cuts-in-Cuts-clause-err : goal.returns-in_err-reserve_cuts-in-Cuts-clause-err
returns-in_err-reserve_cuts-in-Cuts-clause-err c =
    let w : wanted c.args.atom.now ≡ wants.Cuts c.in-Cuts.lo c.in-Cuts.hi = sym c.in_ok-wanted.ensures ∙ c.in-Cuts.is in
    on_err _ _ (first_made c.args.atom.now c.args.others.now c.args.self.now _
    (elim c.in_err-reserve_cuts-in-Cuts.ensures.err [
      | inl same ↦ same_changes c.args.atom.now c.args.self.now c.reserve_cuts.new.ranges same
      | inr one ↦ one_cut c.args.atom.now c.args.self.now c.reserve_cuts.new.ranges c.in-Cuts.lo c.in-Cuts.hi w one
    ]))

pub returns-in_err-reserve-in-At-clause-err : goal.returns-in_err-reserve-in-At-clause-err
returns-in_err-reserve-in-At-clause-err c =
    let others = c.args.others.now in
    let n = c.count_in-count.result in
    on_err _ _ (run_partly c.args.atom.now c.in-At.spot c.in-At.tag others (take n others) (drop n others) c.args.self.now c.reserve.new.self (sym c.in_ok-wanted.ensures ∙ c.in-At.is)
    (take-append-drop n others) c.count_in-count.ensures.run
    (subst (λ run. PartlyMade with_rooms run c.args.self.now.spots (with_spot c.in-At.spot c.in-At.tag c.args.self.now.spots) c.reserve.new.self) c.first.ensures c.in_err-reserve-in-At.ensures.part))

pub returns-in_ok-reserve_cuts-in-Cuts-clause-made : goal.returns-in_ok-reserve_cuts-in-Cuts-clause-made
returns-in_ok-reserve_cuts-in-Cuts-clause-made c =
    let w : wanted c.args.atom.now ≡ wants.Cuts c.in-Cuts.lo c.in-Cuts.hi = sym c.in_ok-wanted.ensures ∙ c.in-Cuts.is in
    single_made c.args.atom.now c.args.self.now _
    (both_cuts c.args.atom.now c.args.self.now c.reserve_cuts.new.ranges c.in-Cuts.lo c.in-Cuts.hi w c.in_ok-reserve_cuts-in-Cuts.ensures.ok)
    (cuts_there c.args.atom.now c.args.self.now c.reserve_cuts.new.ranges c.in-Cuts.lo c.in-Cuts.hi w c.in_ok-reserve_cuts-in-Cuts.ensures.ok)

pub returns-in_ok-reserve-in-At-clause-made : goal.returns-in_ok-reserve-in-At-clause-made
returns-in_ok-reserve-in-At-clause-made c =
    let others = c.args.others.now in
    let n = c.count_in-count.result in
    run_placed c.args.atom.now c.in-At.spot c.in-At.tag (take n others) c.args.self.now c.reserve.new.self (sym c.in_ok-wanted.ensures ∙ c.in-At.is) c.count_in-count.ensures.run
    (c.in_ok-reserve-in-At.ensures.made ∙ ap (λ run. with_rooms run (with_spot c.in-At.spot c.in-At.tag c.args.self.now.spots)) c.first.ensures)
