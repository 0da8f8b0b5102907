use Rattle.std.proofs.Common.{sym, subst}
use Rattle.cas_disk.specs.Inner.Past.{Left}
use Rattle.cas_disk.proofs.laws.images_of_images_are_images.Goals as goal

pub returns : goal.returns
returns c = λ start past image again left same. subst (Left start past) (sym same) left
