use Rattle.std.proofs.Common.{◌∙◌, ◌∷◌, refl}
use Rattle.cas_disk.specs.declared.event.Event.TheVariants.{Sync}
use Rattle.cas_disk.specs.declared.name.Name.TheVariants.{Manifest}
use Rattle.cas_disk.proofs.ImageLaws.{untouched}
use Rattle.cas_disk.proofs.laws.removed_is_in_no_image.Goals as goal

pub returns : goal.returns
returns c = λ n start past later image other gone none left. let (d, was, same) = untouched n start (Sync Manifest ∷ past) later image none left in same ∙ was.1.removed refl n other gone
