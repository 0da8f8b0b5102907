use Rattle.std.proofs.Common.{◌∙◌, ◌∷◌}
use Rattle.cas_disk.specs.declared.event.Event.TheVariants.{Admit}
use Rattle.cas_disk.specs.declared.name.Name.TheVariants.{Table}
use Rattle.cas_disk.proofs.ImageLaws.{untouched}
use Rattle.cas_disk.proofs.laws.admitted_is_in_every_image.Goals as goal

pub returns : goal.returns
returns c = λ number bytes start past later image none left. let (d, was, same) = untouched (Table number) start (Admit number bytes ∷ past) later image none left in same ∙ was.2.here
