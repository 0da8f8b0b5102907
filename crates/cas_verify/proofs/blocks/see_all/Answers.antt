use Rattle.std.proofs.Common.{subst, sym, ap, List, take, arith}
use Rattle.std.specs.List.{flat_map}
use Rattle.std.proofs.lemmas.List.{take_all}
use Rattle.cas_atoms.specs.declared.atom.Atom.{Atom}
use Rattle.cas_facts.specs.Told.{told}
use Rattle.cas_verify.specs.Inner.Walks.{Sees}
use Rattle.cas_verify.proofs.Turns.{flat_take, sees_both}
use Rattle.cas_verify.proofs.blocks.see_all.Goals as goal

pub loop-fragment-preserved : goal.loop-fragment-preserved
loop-fragment-preserved c =
    let xs = c.args.fragments.now in
    let i = c.loop-fragment.fragment-index in
    subst (λ (atoms : List Atom). Sees c.args.seen.now atoms c.see.new.self) (sym (flat_take told xs i c.fragment-item.result c.loop-fragment-test.true (sym c.fragment-item.is)))
    (sees_both c.args.seen.now c.loop-fragment.seen c.see.new.self (flat_map told (take i xs)) (told c.fragment-item.result) c.loop-fragment.invariant c.see.ensures)

pub returns : goal.returns
returns c =
    subst (λ (atoms : List Atom). Sees c.args.seen.now atoms c.loop-fragment.seen)
    (ap (flat_map told) (take_all c.loop-fragment.fragment-index c.args.fragments.now (omega (arith, c.loop-fragment-test.false)))) c.loop-fragment.invariant
