use Rattle.std.proofs.Common.{◌≡◌, List, ◌∷◌, take, drop, length, ◌-◌, sym, ap, ◌∙◌, subst}
use Rattle.std.proofs.lemmas.List.{take-append-drop}
use Rattle.cas_atoms.specs.declared.atom.Atom.{Atom}
use Rattle.cas_partition.proofs.Lists.{Making, some_made, run_made, all_made, all_there, none_left}
use Rattle.cas_partition.proofs.RunLists.{rest_is}
use Rattle.cas_partition.proofs.partition.Partition.reserve_all.Goals as goal

pub returns-in_err-count-clause-makes : goal.returns-in_err-count-clause-makes
returns-in_err-count-clause-makes c =
    let rest = c.loop-rest.rest.now in
    let a = c.atom-item.result in
    let others : List Atom = take (length rest - 1) (drop 1 rest) in
    let is : rest ≡ a ∷ others = rest_is rest a c.in-len1-up.len_at_least ∙ ap (λ x. x ∷ others) (sym c.atom-item.is) in
    some_made c.args.atoms.now (a ∷ others) c.args.self.now c.loop-rest.self c.reserve_run.new.self
    (subst (λ l. Making c.args.atoms.now l c.args.self.now c.loop-rest.self) is c.loop-rest.invariant) c.in_err-count.ensures.err

pub loop-rest-preserved : goal.loop-rest-preserved
loop-rest-preserved c =
    let rest = c.loop-rest.rest.now in
    let a = c.atom-item.result in
    let n = c.in_ok-count.count in
    let others : List Atom = take (length rest - 1) (drop 1 rest) in
    let is : rest ≡ a ∷ others = rest_is rest a c.in-len1-up.len_at_least ∙ ap (λ x. x ∷ others) (sym c.atom-item.is) in
    subst (λ l. Making c.args.atoms.now l c.args.self.now c.reserve_run.new.self) (sym c.behind-rest.ensures)
    (run_made c.args.atoms.now (a ∷ take n others) (drop n others) c.args.self.now c.loop-rest.self c.reserve_run.new.self
    (subst (λ l. Making c.args.atoms.now l c.args.self.now c.loop-rest.self) (is ∙ ap (λ l. a ∷ l) (sym (take-append-drop n others))) c.loop-rest.invariant) c.in_ok-count.ensures.made)

pub returns-clause-places : goal.returns-clause-places
returns-clause-places c =
    all_there c.args.atoms.now c.args.self.now c.loop-rest.self
    (none_left c.args.atoms.now c.loop-rest.rest.now c.args.self.now c.loop-rest.self c.in_default.len_below c.loop-rest.invariant)

pub returns-clause-makes : goal.returns-clause-makes
returns-clause-makes c =
    all_made c.args.atoms.now c.args.self.now c.loop-rest.self
    (none_left c.args.atoms.now c.loop-rest.rest.now c.args.self.now c.loop-rest.self c.in_default.len_below c.loop-rest.invariant)
