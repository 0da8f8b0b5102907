use Rattle.cas_disk.proofs.ImageLaws.{others_stay}
use Rattle.cas_disk.proofs.laws.writes_change_no_other_file.Goals as goal

pub returns : goal.returns
returns c = others_stay
