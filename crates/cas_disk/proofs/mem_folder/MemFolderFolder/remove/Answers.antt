use Rattle.std.proofs.Common.{List, ◌∷◌, ◌∙◌, ap}
use Rattle.cas_disk.specs.declared.event.Event.{Event}
use Rattle.cas_disk.specs.declared.event.Event.TheVariants.{Remove}
use Rattle.cas_disk.proofs.ReadLemmas.{remove_follows}
use Rattle.cas_disk.proofs.mem_folder.MemFolderFolder.remove.Goals as goal

pub returns-clause-gone : goal.returns-clause-gone
returns-clause-gone c =
    remove_follows _ c.args.self.now.past.items _ c.args.n (c.push_front_reserved.ensures.items ∙ ap (λ (l : List Event). Remove c.args.n ∷ l) c.reserve.ensures.items)
