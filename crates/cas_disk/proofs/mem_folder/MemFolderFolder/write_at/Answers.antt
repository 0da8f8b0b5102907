use Rattle.std.proofs.Common.{List, ◌∷◌, ◌∙◌, ap}
use Rattle.cas_disk.specs.declared.event.Event.{Event}
use Rattle.cas_disk.specs.declared.event.Event.TheVariants.{Write}
use Rattle.cas_disk.proofs.ReadLemmas.{write_follows}
use Rattle.cas_disk.proofs.mem_folder.MemFolderFolder.write_at.Goals as goal

pub returns-clause-written : goal.returns-clause-written
returns-clause-written c =
    write_follows _ c.args.self.now.past.items _ c.args.n c.args.at c.in-Ok.kept c.args.bytes.now (c.push_front_reserved.ensures.items ∙ ap (λ (l : List Event). Write c.args.n c.args.at c.in-Ok.kept ∷ l) c.reserve.ensures.items) c.in-Ok.ensures.items
