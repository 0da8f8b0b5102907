use Rattle.std.proofs.Common.{◌∙◌, nat_eq, ap₂}
use Rattle.cas_types.proofs.Padded.{places_same}
use Rattle.cas_types.proofs.short.are_same_places.Goals as goal

pub returns : goal.returns
returns c = ap₂ nat_eq c.from_be_bytes.ensures c.from_be_bytes-2.ensures ∙ places_same c.args.a.now c.args.b.now c.told-a c.told-b c.fits-a c.fits-b
