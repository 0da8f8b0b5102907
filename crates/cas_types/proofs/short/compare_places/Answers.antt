use Rattle.std.proofs.Common.{◌∙◌, nat_cmp, ap₂}
use Rattle.cas_types.proofs.Padded.{places_order}
use Rattle.cas_types.proofs.short.compare_places.Goals as goal

pub returns : goal.returns
returns c = c.cmp.ensures ∙ ap₂ nat_cmp c.from_be_bytes.ensures c.from_be_bytes-2.ensures ∙ places_order c.args.a.now c.args.b.now c.told-a c.told-b c.fits-a c.fits-b
