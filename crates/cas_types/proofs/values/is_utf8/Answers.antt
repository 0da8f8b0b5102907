use Rattle.std.proofs.Common.{◌∙◌}
use Rattle.cas_types.proofs.Utf8.{told}
use Rattle.cas_types.proofs.values.is_utf8.Goals as goal

pub returns : goal.returns
returns c = c.is_ok.ensures.value ∙ told c.args.bytes.now _ _ c.from_utf8.result c.from_utf8.ensures.cases
