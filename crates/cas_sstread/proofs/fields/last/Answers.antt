use Rattle.std.proofs.Common.{◌∙◌}
use Rattle.cas_index.proofs.Following.{last_get}
use Rattle.cas_sstread.proofs.fields.last.Goals as goal

pub returns : goal.returns
returns g c = c.last.ensures.value ∙ last_get c.args.items.now
