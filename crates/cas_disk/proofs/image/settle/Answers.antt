use Rattle.std.proofs.Common.{List, ◌≡◌, sym, ◌∙◌, ap}
use Rattle.cas_disk.specs.declared.name.Name.{Name}
use Rattle.cas_disk.specs.declared.name.Name.TheVariants.{Manifest}
use Rattle.cas_disk.specs.declared.event.Stored.{Stored}
use Rattle.cas_disk.specs.Inner.Past.{image_of, with_file, mixed, lasts}
use Rattle.cas_disk.proofs.Settling.{on_ok, settled_manifest}
use Rattle.cas_disk.proofs.image.settle.Goals as goal

pub returns-in-Manifest : goal.returns-in-Manifest
returns-in-Manifest c =
    let read = image_of c.args.read.now in
    let kept = c.args.kept.now.items in
    let Copied : Type 0 = image_of c.copy_file.new.kept.items ≡ with_file Manifest (read Manifest) (image_of c.drop_missing.new.kept.items) in
    on_ok c.copy_file.result c.copy_file.ensures (λ (copied : Copied).
    copied
    ∙ ap (λ (l : List Stored). with_file Manifest (read Manifest) (image_of l)) c.drop_missing.ensures
    ∙ settled_manifest read kept
    ∙ ap (λ (n : Name). mixed (lasts n read) read (image_of kept)) (sym c.in-Manifest.is))
