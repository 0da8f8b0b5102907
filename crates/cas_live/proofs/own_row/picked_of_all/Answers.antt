use Rattle.std.proofs.Common.{◌≡◌, Some, sym, ap, ◌∙◌}
use Rattle.cas_atoms.specs.Coordinates.{clustered}
use Rattle.cas_atoms.specs.Picks.{picked}
use Rattle.cas_atoms.specs.declared.query.Datum.TheVariants as datum
use Rattle.cas_atoms.specs.declared.query.Pick.TheVariants.{Value}
use Rattle.cas_live.specs.Inner.OwnRow.{key_type}
use Rattle.cas_live.proofs.KeyPicks.{key_picked}
use Rattle.cas_live.proofs.own_row.picked_of_all.Goals as goal

pub returns-in-Some : goal.returns-in-Some
returns-in-Some c =
    let q = c.args.query.now in
    let all = c.args.all in
    let is : key_type q.columns ≡ Some c.in-Some.tag = sym (c.key_type.ensures ∙ ap key_type c.as_slice.ensures) ∙ c.in-Some.is in
    let zero : 0 ≡ c.in-Value-eq0.field-0 = sym c.in-Value-eq0.field-0-test ∙ c.in-Value-eq0.field-0-is in
    ap (datum.One c.in-Some.tag) (c.in_ok-copy_of.ensures ∙ c.as_slice-in-Some.ensures)
    ∙ sym (key_picked q all.atoms.now all.now c.args.values.now c.in-Some.tag is)
    ∙ ap (picked q all.atoms.now all.now (clustered c.args.values.now)) (ap Value zero ∙ sym c.in-Value-eq0.is)
