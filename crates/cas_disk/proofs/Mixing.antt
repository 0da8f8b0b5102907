-- What may stand under one name doesn't depend on what stands under another, so two images mix.
use Rattle.std.proofs.Common.{◌≡◌, ◌∙◌, refl, Bool, true, false, if◌then◌else◌, List, [], ◌∷◌, ℕ, Option, None}
use Rattle.cas_disk.specs.declared.name.Name.{Name}
use Rattle.cas_disk.specs.declared.name.Name.TheVariants.{Table}
use Rattle.cas_disk.specs.declared.event.Event.{Event}
use Rattle.cas_disk.specs.declared.event.Event.TheVariants.{Create, Write, Sync, Remove, Draft, Admit}
use Rattle.cas_disk.specs.Disk.{Image, Changed, IsSynced}
use Rattle.cas_disk.specs.Inner.Past.{now, Left, mixed}

of_either : {A : Type 0} (b : Bool) (P : A → Type 0) (x y : A) → P x → P y → P (if b then x else y)
of_either true P x y first second = first
of_either false P x y first second = second

of_both : {A : Type 0} (b : Bool) (R : A → A → Type 0) (x y u v : A) → R x u → R y v → R (if b then x else y) (if b then u else v)
of_both true R x y u v first second = first
of_both false R x y u v first second = second

same_both : {A : Type 0} (b : Bool) (x : A) → (if b then x else x) ≡ x
same_both true x = refl
same_both false x = refl

mix_changed : (p : Name → Bool) (n : Name) (change : Option (List ℕ) → Option (List ℕ) → Type 0) (d e c f : Image) → Changed n change d c → Changed n change e f → Changed n change (mixed p d e) (mixed p c f)
mix_changed p n change d e c f first second = record {
  here = of_both (p n) change (d n) (e n) (c n) (f n) first.here second.here;
  others = λ k other. λ i. if p k then first.others k other i else second.others k other i;
}

mix_synced : (p : Name → Bool) (n : Name) (read c d : Image) → IsSynced n read c → IsSynced n read d → IsSynced n read (mixed p c d)
mix_synced p n read c d first second = record {
  here = of_either (p n) (λ x. x ≡ read n) (c n) (d n) first.here second.here;
  removed = λ manifest k other none. of_either (p k) (λ x. x ≡ None) (c k) (d k) (first.removed manifest k other none) (second.removed manifest k other none);
}

pub mix : (p : Name → Bool) (start : Image) (past : List Event) (c d : Image) → Left start past c → Left start past d → Left start past (mixed p c d)
mix p start [] c d first second = λ i k. ((λ j. if p k then first j k else second j k) ∙ same_both (p k) (start k)) i
mix p start (Create n ∷ past) c d first second = (mixed p first.0 second.0, mix p start past first.0 second.0 first.1 second.1, mix_changed p n _ first.0 second.0 c d first.2 second.2)
mix p start (Write n at bytes ∷ past) c d first second = (mixed p first.0 second.0, mix p start past first.0 second.0 first.1 second.1, mix_changed p n _ first.0 second.0 c d first.2 second.2)
mix p start (Sync n ∷ past) c d first second = (mix p start past c d first.0 second.0, mix_synced p n (now start past) c d first.1 second.1)
mix p start (Remove n ∷ past) c d first second = (mixed p first.0 second.0, mix p start past first.0 second.0 first.1 second.1, mix_changed p n _ first.0 second.0 c d first.2 second.2)
mix p start (Draft number ∷ past) c d first second = (mixed p first.0 second.0, mix p start past first.0 second.0 first.1 second.1, mix_changed p (Table number) _ first.0 second.0 c d first.2 second.2)
mix p start (Admit number bytes ∷ past) c d first second = (mixed p first.0 second.0, mix p start past first.0 second.0 first.1 second.1, mix_changed p (Table number) _ first.0 second.0 c d first.2 second.2)
