use Rattle.std.proofs.Common.{List, ◌∙◌, ap, sym, subst}
use Rattle.cas_disk.specs.declared.event.Event.{Event}
use Rattle.cas_disk.specs.declared.event.Stored.{Stored}
use Rattle.cas_disk.specs.Disk.{Image}
use Rattle.cas_disk.specs.Inner.Past.{image_of, Left, chosen}
use Rattle.cas_disk.proofs.Settling.{chosen_left}
use Rattle.cas_disk.proofs.memory.MemFolder.image.Goals as goal

pub returns-clause-image : goal.returns-clause-image
returns-clause-image c image left =
    let start = image_of c.args.self.now.start.items in
    let past = c.args.self.now.past.items in
    subst (λ (d : Image). Left start past d)
    (sym (subst (λ (l : List Event). Left (image_of c.in_ok-start.start.items) l image) c.new.ensures.items left ∙ c.in_ok-start.ensures ∙ ap (λ (l : List Stored). chosen c.args.choice (image_of l) past) c.deref.ensures.value))
    (chosen_left c.args.choice start past)
