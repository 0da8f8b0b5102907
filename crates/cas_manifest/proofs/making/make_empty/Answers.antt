use Rattle.std.proofs.Common.{[], refl}
use Rattle.cas_manifest.proofs.Begins.{begun, begun_stands, opened}
use Rattle.cas_manifest.proofs.making.make_empty.Goals as goal

pub returns-in_err-shut-clause-during : goal.returns-in_err-shut-clause-during
returns-in_err-shut-clause-during g c = begun _ _ c.shut.ensures.during

pub returns-in_err-write_gated-clause-during : goal.returns-in_err-write_gated-clause-during
returns-in_err-write_gated-clause-during g c =
    let s = c.in_ok-shut.ensures.shut in
    opened _ refl _ _ _ c.shut.ensures.during (c.write_gated.ensures.during_over [] s.rest s.gate refl s.closed s.kept)

pub returns-clause-during : goal.returns-clause-during
returns-clause-during g c =
    let s = c.in_ok-shut.ensures.shut in
    opened _ refl _ _ _ c.shut.ensures.during (c.write_gated.ensures.during_over [] s.rest s.gate refl s.closed s.kept)

pub returns-clause-stands : goal.returns-clause-stands
returns-clause-stands g c =
    let s = c.in_ok-shut.ensures.shut in
    begun_stands _ refl _ _ (c.in_ok-write_gated.ensures.opened_over [] s.rest s.gate refl s.closed s.kept)
