-- What lasts after a write and a sync.
use Rattle.std.proofs.Common.{◌≡◌, ℕ, ◌+◌, ◌≤◌, List, [], ◌++◌, length, Option, None, Some, refl, sym, ◌∙◌, ap, subst, arith}
use Rattle.std.proofs.lemmas.List.{append-nil, drop_all}
use Rattle.cas_disk.specs.declared.name.Name.{Name}
use Rattle.cas_disk.specs.Disk.{Image, Disk, During, Follows, Same, Changed, MayTear, Holds, Is, IsSynced, IsKept, put_at}
use Rattle.cas_disk.specs.Inner.PastLaws.{not_torn}
use Rattle.cas_disk.proofs.Moments.{one_call_more}

-- of a file that is written nothing may change
pub may_not_tear : (at n : ℕ) (file : Option (List ℕ)) → MayTear at n file file
may_not_tear at n None = refl
may_not_tear at n (Some file) = (file, refl, not_torn at n file)

-- calls that change one file, and then one that changes nothing
pub then_still : (n : Name) (change : Option (List ℕ) → Option (List ℕ) → Type 0) (a b z : Disk) → ((file : Option (List ℕ)) → change file file)
    → During (Changed n change) a b → During Same b z → During (Changed n change) a z
then_still n change a b z may_stay first second = one_call_more (Changed n change) Same a b z first second
    (λ d c was mid same. still d d c (record { here = may_stay (d n); others = λ k other. refl }) same)
    (λ e d c was changed mid same. still e d c changed same)
  where
    still : (e d c : Image) → Changed n change e d → Same d c → Changed n change e c
    still e d c changed same = record { here = subst (λ (x : Option (List ℕ)). change (e n) x) (sym (same n)) changed.here; others = λ k other. same k ∙ changed.others k other }

-- what each image has of a file that was written over what was read, and synced
abbrev pub Syncs : Name → Disk → Type 0
Syncs n z = (c : Image) → z.may_leave c → (read : Image) × z.reads read × IsSynced n read c

module _ (n : Name) (at : ℕ) (bytes : List ℕ) (a b z : Disk) (written : Follows (Changed n (Holds at bytes)) a.reads b.reads) (same : Follows Same b.reads z.reads) where
  held : Syncs n z → (c : Image) → z.may_leave c → (e : Image) × a.reads e × Holds at bytes (e n) (c n)
  held synced c left =
      let (read, now, is) = synced c left in
      let (d, was, still) = same read now in
      let (e, first, changed) = written d was in
      (e, first, subst (λ (x : Option (List ℕ)). Holds at bytes (e n) x) (sym (is.here ∙ still n)) changed.here)

  pub put_kept : (file : List ℕ) → at ≤ length file → IsKept n file a → Syncs n z → IsKept n (put_at at bytes file) z
  put_kept file within kept synced c left =
      let (e, first, here) = held synced c left in
      let there : Holds at bytes (Some file) (c n) = subst (λ (x : Option (List ℕ)). Holds at bytes x (c n)) (kept e (a.is_image e first)) here in
      there within

-- a file that was made without bytes
pub make_kept : (n : Name) (bytes : List ℕ) (o a b z : Disk) → Follows (Changed n (Is [])) o.reads a.reads → Follows (Changed n (Holds 0 bytes)) a.reads b.reads → Follows Same b.reads z.reads → Syncs n z → IsKept n bytes z
make_kept n bytes o a b z made written same synced c left =
    let (e, first, here) = held n 0 bytes a b z written same synced c left in
    let (d, was, emptied) = made e first in
    let there : Holds 0 bytes (Some []) (c n) = subst (λ (x : Option (List ℕ)). Holds 0 bytes x (c n)) emptied.here here in
    there (omega arith) ∙ ap (λ (l : List ℕ). Some (bytes ++ l)) (drop_all (0 + length bytes) [] (omega arith)) ∙ ap (λ (l : List ℕ). Some l) (append-nil bytes)
