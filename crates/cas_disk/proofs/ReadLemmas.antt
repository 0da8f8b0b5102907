-- What a folder in memory reads after a write and a removal.
use Rattle.std.proofs.Common.{◌≡◌, Bool, true, false, if◌then◌else◌, ℕ, ◌≤◌, List, ◌∷◌, length, Option, None, Some, nat_le, refl, sym, ◌∙◌, ap, subst, arith, Vec}
use Rattle.std.specs.declared.alloc.Global.{Global}
use Rattle.std.proofs.lemmas.Bool.Decides.{nat_tests}
use Rattle.cas_disk.specs.declared.name.Name.{Name}
use Rattle.cas_disk.specs.declared.event.Event.{Event}
use Rattle.cas_disk.specs.declared.event.Event.TheVariants.{Write, Remove}
use Rattle.cas_disk.specs.Disk.{Image, Follows, Changed, Holds, IsGone, put_at}
use Rattle.cas_disk.specs.Inner.Past.{with_file, written, now}
use Rattle.cas_disk.specs.Inner.PastLaws.{with_file_changed}

reaches : (at : ℕ) (bytes file : List ℕ) (b : Bool) → nat_le at (length file) ≡ b → at ≤ length file → (if b then Some (put_at at bytes file) else Some file) ≡ Some (put_at at bytes file)
reaches at bytes file true e within = refl
reaches at bytes file false e within = absurd (grind (arith, nat_tests))

written_holds : (at : ℕ) (bytes : List ℕ) (file : Option (List ℕ)) → Holds at bytes file (written at bytes file)
written_holds at bytes None = tt
written_holds at bytes (Some file) = λ within. reaches at bytes file (nat_le at (length file)) refl within

pub write_follows : (start : Image) (past later : List Event) (n : Name) (at : ℕ) (kept : Vec ℕ Global) (bytes : List ℕ) → later ≡ Write n at kept ∷ past → kept.items ≡ bytes → Follows (Changed n (Holds at bytes)) (λ c. c ≡ now start past) (λ c. c ≡ now start later)
write_follows start past later n at kept bytes is same c reads =
    let old = now start past in
    let new : c ≡ with_file n (written at kept.items (old n)) old = reads ∙ ap (λ (l : List Event). now start l) is in (
      old,
      refl,
      subst (λ (f : Image). Changed n (Holds at bytes) old f) (sym new)
          (with_file_changed n (Holds at bytes) _ old (subst (λ (l : List ℕ). Holds at l (old n) (written at kept.items (old n))) same (written_holds at kept.items (old n)))),
    )

pub remove_follows : (start : Image) (past later : List Event) (n : Name) → later ≡ Remove n ∷ past → Follows (Changed n IsGone) (λ c. c ≡ now start past) (λ c. c ≡ now start later)
remove_follows start past later n is c reads =
    let old = now start past in
    let new : c ≡ with_file n None old = reads ∙ ap (λ (l : List Event). now start l) is in
    (old, refl, subst (λ (f : Image). Changed n IsGone old f) (sym new) (with_file_changed n IsGone None old refl))
