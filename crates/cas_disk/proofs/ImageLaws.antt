-- What of a file is in every image, and the one image of a choice.
use Rattle.std.proofs.Common.{◌≡◌, ◌≢◌, ◌∙◌, ap, refl, ◌||◌, Bool, true, false, List, [], ◌∷◌, ◌++◌, ℕ, Option}
use Rattle.std.specs.List.{list_any}
use Rattle.cas_disk.specs.declared.name.Name.{Name}
use Rattle.cas_disk.specs.declared.name.Name.TheVariants.{Table}
use Rattle.cas_disk.specs.declared.event.Event.{Event}
use Rattle.cas_disk.specs.declared.event.Event.TheVariants.{Create, Write, Sync, Remove, Draft, Admit}
use Rattle.cas_disk.specs.Disk.{Image, Changed}
use Rattle.cas_disk.specs.Names.{same_name}
use Rattle.cas_disk.specs.Inner.Past.{Left, WritesTo, touches}
use Rattle.cas_disk.specs.Inner.PastLaws.{same_self}

apart : (m n : Name) → same_name m n ≡ false → n ≢ m
apart m n isnt is = absurd (cc (ap (λ (k : Name). same_name m k) is ∙ same_self m, isnt))

none_of : (a b : Bool) → (a || b) ≡ false → (a ≡ false) × (b ≡ false)
none_of false false e = (refl, refl)
none_of true b e = absurd (cc)
none_of false true e = absurd (cc)

-- one change of another file more
abbrev Under : Name → Image → List Event → Image → Type 0
Under n start past c = (d : Image) × Left start past d × (c n ≡ d n)

one_more : (n m : Name) (change : Option (List ℕ) → Option (List ℕ) → Type 0) (start : Image) (past : List Event) (e c : Image) → same_name m n ≡ false → Changed m change e c → Under n start past e → Under n start past c
one_more n m change start past e c isnt changed under = (under.0, under.1, changed.others n (apart m n isnt) ∙ under.2)

pub untouched : (n : Name) (start : Image) (past later : List Event) (c : Image) → list_any (touches n) later ≡ false → Left start (later ++ past) c → Under n start past c
untouched n start past [] c none left = (c, left, refl)
untouched n start past (Create m ∷ later) c none left = let parts = none_of (same_name m n) (list_any (touches n) later) none in one_more n m _ start past left.0 c parts.0 left.2 (untouched n start past later left.0 parts.1 left.1)
untouched n start past (Write m at bytes ∷ later) c none left = let parts = none_of (same_name m n) (list_any (touches n) later) none in one_more n m _ start past left.0 c parts.0 left.2 (untouched n start past later left.0 parts.1 left.1)
untouched n start past (Sync m ∷ later) c none left = untouched n start past later c none left.0
untouched n start past (Remove m ∷ later) c none left = let parts = none_of (same_name m n) (list_any (touches n) later) none in one_more n m _ start past left.0 c parts.0 left.2 (untouched n start past later left.0 parts.1 left.1)
untouched n start past (Draft number ∷ later) c none left = let parts = none_of (same_name (Table number) n) (list_any (touches n) later) none in one_more n (Table number) _ start past left.0 c parts.0 left.2 (untouched n start past later left.0 parts.1 left.1)
untouched n start past (Admit number bytes ∷ later) c none left = let parts = none_of (same_name (Table number) n) (list_any (touches n) later) none in one_more n (Table number) _ start past left.0 c parts.0 left.2 (untouched n start past later left.0 parts.1 left.1)

pub others_stay : (n : Name) (start : Image) (past later : List Event) (c : Image) → WritesTo n later → Left start (later ++ past) c → (d : Image) × Left start past d × ((k : Name) → k ≢ n → c k ≡ d k)
others_stay n start past [] c writes left = (c, left, λ k other. refl)
others_stay n start past (Write m at bytes ∷ later) c writes left =
    let (d, was, same) = others_stay n start past later left.0 writes.1 left.1 in
    (d, was, λ k other. left.2.others k (λ is. other (is ∙ writes.0)) ∙ same k other)
others_stay n start past (Create m ∷ later) c writes left = absurd writes
others_stay n start past (Sync m ∷ later) c writes left = absurd writes
others_stay n start past (Remove m ∷ later) c writes left = absurd writes
others_stay n start past (Draft number ∷ later) c writes left = absurd writes
others_stay n start past (Admit number bytes ∷ later) c writes left = absurd writes
