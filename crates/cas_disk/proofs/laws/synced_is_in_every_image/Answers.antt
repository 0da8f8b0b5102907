use Rattle.std.proofs.Common.{◌∙◌, ◌∷◌}
use Rattle.cas_disk.specs.declared.event.Event.TheVariants.{Sync}
use Rattle.cas_disk.proofs.ImageLaws.{untouched}
use Rattle.cas_disk.proofs.laws.synced_is_in_every_image.Goals as goal

pub returns : goal.returns
returns c = λ n start past later image none left. let (d, was, same) = untouched n start (Sync n ∷ past) later image none left in same ∙ was.1.here
