use Rattle.std.proofs.Common.{refl}
use Rattle.cas_blocks.specs.Reading.{left_at}
use Rattle.cas_reading.proofs.slices.head_for.Goals as goal

pub returns-in-Ok-clause-told : goal.returns-in-Ok-clause-told
returns-in-Ok-clause-told g c = λ b is.
    c.own_head.ensures.told (left_at b c.args.file.now.end c.args.place) refl (c.in-Ok.ensures.told b is)
