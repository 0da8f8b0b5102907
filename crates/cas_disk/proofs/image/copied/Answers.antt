use Rattle.std.proofs.Common.{List, [], ◌∷◌, ◌++◌, take, refl, sym, ◌∙◌, ap}
use Rattle.std.proofs.lemmas.List.{take_more}
use Rattle.cas_disk.specs.declared.event.Stored.{Stored}
use Rattle.cas_disk.specs.Inner.Past.{image_of}
use Rattle.cas_disk.proofs.FileLemmas.{image_of-copy}
use Rattle.cas_disk.proofs.image.copied.Goals as goal

pub loop-file-preserved : goal.loop-file-preserved
loop-file-preserved c =
    let i = c.loop-file.file-index in
    ap (λ (l : List Stored). image_of l) c.in_ok-push.ensures.items
    ∙ image_of-copy c.loop-file.copy.items (take i c.args.files.now) _ c.file-item.result c.loop-file.invariant refl (c.in_ok-bytes.ensures.items ∙ c.deref.ensures.value)
    ∙ ap (λ (l : List Stored). image_of l) (sym (take_more c.args.files.now i c.file-item.result c.loop-file-test.true ∙ ap (λ (f : Stored). take i c.args.files.now ++ f ∷ []) (sym c.file-item.is)))
