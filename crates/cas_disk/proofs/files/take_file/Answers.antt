use Rattle.std.proofs.Common.{◌∙◌, ap}
use Rattle.cas_disk.specs.Inner.Past.{image_of}
use Rattle.cas_disk.proofs.FileLemmas.{image_of-others}
use Rattle.cas_disk.proofs.files.take_file.Goals as goal

pub returns : goal.returns
returns c = ap image_of c.leave.ensures.items ∙ image_of-others c.args.n c.args.files.now.items
