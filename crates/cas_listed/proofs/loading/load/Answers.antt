use Rattle.std.proofs.Common.{◌≡◌, ◌∙◌, sym}
use Rattle.cas_listed.proofs.loading.load.Goals as goal

pub returns-in-Err-BadBlock-clause-bad : goal.returns-in-Err-BadBlock-clause-bad
returns-in-Err-BadBlock-clause-bad g c number at is bytes told =
    let (of, bad) = rw c.in-Err-BadBlock.field-0-is at (c.in-Err-BadBlock.ensures.loaded bytes told) in
    let same : c.in-Err-BadBlock.number ≡ number = cc in
    let place : c.in-Err-BadBlock.at ≡ at = cc in
    (sym same ∙ of, rw place at bad)
