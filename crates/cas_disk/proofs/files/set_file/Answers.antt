use Rattle.std.proofs.Common.{List, [], ◌∷◌, ◌++◌, ◌∙◌, ap}
use Rattle.cas_disk.specs.declared.event.Stored.{Stored}
use Rattle.cas_disk.specs.Inner.Past.{image_of}
use Rattle.cas_disk.proofs.FileLemmas.{others, image_of-set}
use Rattle.cas_disk.proofs.files.set_file.Goals as goal

pub returns-clause-ok : goal.returns-clause-ok
returns-clause-ok c =
    ap image_of (c.push_reserved.ensures.items ∙ ap (λ (l : List Stored). l ++ record { name = c.args.n; bytes = c.args.bytes } ∷ []) (c.leave.ensures.items ∙ ap (λ (l : List Stored). others c.args.n l) c.in_ok-reserve.ensures.items))
    ∙ image_of-set c.args.n c.args.bytes c.args.files.now.items
