-- For crates above: calls one after another, and what holds at each of their moments.
use Rattle.std.proofs.Common.{◌≡◌, ◌≢◌, ◌⊎◌, inl, inr, ⊎_elim, ◌∙◌, ℕ, List, Option, arith}
use Rattle.cas_disk.specs.declared.name.Name.{Name}
use Rattle.cas_disk.specs.Disk.{Image, Disk, During, Changed, Same, Follows, IsKept}

-- before the first call
pub no_call : (step : Image → Image → Type 0) (disk : Disk) → During step disk disk
no_call step disk = record { later = omega arith; each = λ t c le left. inl left; keeps = λ t c le left. left; tells = λ d read. (d, read) }

-- what a crash may leave after a call it might have left before, or the call made it
pub left_after : (step : Image → Image → Type 0) (old new : Disk) → During step old new → (c : Image) → new.may_leave c → old.may_leave c ⊎ ((d : Image) × old.may_leave d × step d c)
left_after step old new call c left =
    let since : new.left_since old.moment c = new.counts_now old.moment c call.later left in
    ⊎_elim (λ was. inl (old.only_now c was)) (λ made. inr made) (call.each old.moment c (omega arith) since)

-- the same step in other words
pub reworded : (step other : Image → Image → Type 0) (old new : Disk) → During step old new → ((d c : Image) → old.may_leave d → step d c → other d c) → During other old new
reworded step other old new call says = record {
  later = call.later;
  each = λ t c le left. ⊎_elim (λ was. inl was) (λ made. inr (made.0, made.1, says made.0 c made.1 made.2)) (call.each t c le left);
  keeps = call.keeps;
  tells = call.tells;
}

-- one call more: what its step makes alone, and what it makes of what was made before
pub one_call_more : (step more : Image → Image → Type 0) (a b z : Disk) → During step a b → During more b z
    → ((d c : Image) → a.may_leave d → b.may_leave d → more d c → step d c)
    → ((e d c : Image) → a.may_leave e → step e d → b.may_leave d → more d c → step e c)
    → During step a z
one_call_more step more a b z first second alone both = record {
  later = omega (arith, first.later, second.later);
  each = λ t c le left. ⊎_elim (λ was. first.each t c le was) (λ made. inr (from_start made.0 c made.1 made.2)) (second.each t c (omega (arith, le, first.later)) left);
  keeps = λ t c le was. second.keeps t c (omega (arith, le, first.later)) (first.keeps t c le was);
  tells = λ d read. let (c, now) = first.tells d read in second.tells c now;
}
  where
    from_start : (d c : Image) → b.may_leave d → more d c → (e : Image) × a.may_leave e × step e c
    from_start d c left after = ⊎_elim (λ was. (d, was, alone d c was left after)) (λ made. (made.0, made.1, both made.0 d c made.1 made.2 left after)) (left_after step a b first d left)

-- a call on one file, by what it leaves of that file
pub leaves_file : (n : Name) (change : Option (List ℕ) → Option (List ℕ) → Type 0) (P : Option (List ℕ) → Type 0) (a z : Disk) → During (Changed n change) a z
    → ((d c : Image) → a.may_leave d → change (d n) (c n) → P (c n)) → During (Changed n (λ _ file. P file)) a z
leaves_file n change P a z call says =
    reworded (Changed n change) (Changed n (λ _ file. P file)) a z call (λ d c was changed. record { here = says d c was changed.here; others = changed.others })

-- two of them, each by what the file was before it
pub leaves_file_twice : (n : Name) (change more : Option (List ℕ) → Option (List ℕ) → Type 0) (P : Option (List ℕ) → Type 0) (a b z : Disk)
    → During (Changed n change) a b → During (Changed n more) b z
    → ((d c : Image) → a.may_leave d → change (d n) (c n) → P (c n)) → ((d c : Image) → b.may_leave d → more (d n) (c n) → P (c n))
    → During (Changed n (λ _ file. P file)) a z
leaves_file_twice n change more P a b z first second says then_says =
    one_call_more (Changed n (λ _ file. P file)) (Changed n more) a b z (leaves_file n change P a b first says) second
    (λ d c was mid changed. record { here = then_says d c mid changed.here; others = changed.others })
    (λ e d c was so_far mid changed. record { here = then_says d c mid changed.here; others = λ k other. changed.others k other ∙ so_far.others k other })

-- images of one kind, and then of another
pub leaves_either : (P Q R : Image → Type 0) (a b z : Disk) → During (λ _ c. P c) a b → During (λ _ c. Q c) b z → ((c : Image) → P c → R c) → ((c : Image) → Q c → R c) → During (λ _ c. R c) a z
leaves_either P Q R a b z first second says then_says =
    one_call_more (λ _ c. R c) (λ _ c. R c) a b z (reworded (λ _ c. P c) (λ _ c. R c) a b first (λ d c was here. says c here)) (reworded (λ _ c. Q c) (λ _ c. R c) b z second (λ d c was here. then_says c here))
    (λ d c was mid here. here) (λ e d c was so_far mid here. here)

-- a call on one file leaves the others as they last
pub others_kept : (n k : Name) (change : Option (List ℕ) → Option (List ℕ) → Type 0) (file : List ℕ) (old new : Disk) → n ≢ k → During (Changed k change) old new → IsKept n file old → IsKept n file new
others_kept n k change file old new other call kept c left = ⊎_elim (λ was. kept c was) (λ made. made.2.others n other ∙ kept made.0 made.1) (left_after (Changed k change) old new call c left)

-- a call that changes nothing: what was read is read still
pub reads_on : (old new : Disk) → During Same old new → Follows Same old.reads new.reads → (c : Image) → old.reads c → (d : Image) × new.reads d × ((k : Name) → d k ≡ c k)
reads_on old new call same c read =
    let (d, now) = call.tells c read in
    let (e, was, still) = same d now in
    (d, now, λ k. still k ∙ old.one e c was read k)
