use Rattle.std.proofs.Common.{◌≡◌, List, ℕ, ◌∷◌, ◌+◌, ◌-◌, drop, get_or, sym, ◌∙◌, ap, arith}
use Rattle.std.proofs.lemmas.List.{drop_more}
use Rattle.cas_disk.specs.declared.event.Event.{Event}
use Rattle.cas_disk.specs.declared.event.Stored.{Stored}
use Rattle.cas_disk.specs.Disk.{Image}
use Rattle.cas_disk.specs.Inner.Past.{image_of, now, chosen, after, changed, settled}
use Rattle.cas_disk.proofs.image.replayed.Goals as goal

pub loop-left-preserved : goal.loop-left-preserved
loop-left-preserved c =
    let i = c.loop-left.left - 1 in
    let past = c.args.past.now.items in
    let start = image_of c.args.start.now in
    let event = c.index-event.result.now in
    let n : i + 1 ≡ c.loop-left.left = omega arith in
    let next : drop i past ≡ event ∷ drop c.loop-left.left past =
    drop_more past i event (omega (arith, c.loop-left.invariant.in_range))
    ∙ ap (λ (m : ℕ). get_or past i event ∷ drop m past) n
    ∙ ap (λ (e : Event). e ∷ drop c.loop-left.left past) (sym c.index-event.ensures) in
    let read = c.loop-left.invariant.read in
    record {
      in_range = omega (arith, c.loop-left.invariant.in_range);
      read = c.in_ok-redo.ensures ∙ ap (λ (d : Image). after event d) read ∙ sym (ap (λ (l : List Event). now start l) next);
      kept =
          c.in_ok-keep.ensures
          ∙ ap (λ (l : List Stored). settled event (image_of l) (changed c.args.choice event (image_of c.loop-left.kept.items))) c.deref.ensures.value
          ∙ ap (λ (d : Image). settled event d (changed c.args.choice event (image_of c.loop-left.kept.items))) read
          ∙ ap (λ (d : Image). settled event (now start (drop c.loop-left.left past)) (changed c.args.choice event d)) c.loop-left.invariant.kept
          ∙ sym (ap (λ (l : List Event). chosen c.args.choice start l) next);
    }
