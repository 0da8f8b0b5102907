use Rattle.cas_flush.proofs.Fitted.{stream_fits}
use Rattle.cas_flush.proofs.laws.what_is_allowed_fits.Goals as goal

pub returns : goal.returns
returns c = stream_fits
