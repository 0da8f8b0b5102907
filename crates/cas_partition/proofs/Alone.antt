-- Rows among which there are markers, or none.
use Rattle.std.proofs.Common.{◌≡◌, Option, None, List, [], ◌∷◌, refl, sym, ap}
use Rattle.cas_cell.proofs.OrderLaws.{deletion_laws}
use Rattle.cas_cell.specs.declared.deletion.Deletion.{Deletion}
use Rattle.cas_atoms.proofs.GreatestLemmas.{greater_none}
use Rattle.cas_streams.specs.Weaving.{woven}
use Rattle.cas_streams.specs.Joined.{raised, by_place}
use Rattle.cas_streams.specs.Merged.{merged}
use Rattle.cas_streams.specs.Settled.{settled}
use Rattle.cas_streams.specs.declared.fragment.Fragment.{Fragment}
use Rattle.cas_streams.specs.declared.fragment.Fragment.TheVariants as fragment

pub raised_none : (f : Fragment) → raised None f ≡ f
raised_none (fragment.Static columns) = refl
raised_none (fragment.Row r) = refl
raised_none (fragment.Marker cut d) = ap (fragment.Marker cut) (greater_none deletion_laws.orders d)

-- rows under a deletion and markers woven: what is left of them is the merge of both
pub both_streams : (top : Option Deletion) (rows marks : List Fragment)
    → settled (record { top = top; fragments = woven by_place (record { left = None; right = None }) rows marks })
    ≡ merged (record { top = top; fragments = rows } ∷ record { top = None; fragments = marks } ∷ [])
both_streams top rows marks = λ i. settled (record { top = sym (greater_none deletion_laws.orders top) i; fragments = woven by_place (record { left = None; right = None }) rows marks })
