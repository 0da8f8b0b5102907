-- Laws of what was done to a folder in memory: as it reads it is one of its images, and moments go on. Own.
use Rattle.std.proofs.Common.{◌≡◌, ◌≢◌, inl, inr, ⊎_elim, Bool, true, false, if◌then◌else◌, ℕ, zero, suc, ◌+◌, ◌≤◌}
use Rattle.std.proofs.Common.{List, [], ◌∷◌, ◌++◌, length, take, drop, Option, None, Some}
use Rattle.std.proofs.Common.{refl, sym, ◌∙◌, ap, subst, arith, length-append, length-take, length-drop, append_assoc, nat_le}
use Rattle.std.proofs.lemmas.Bool.{cases_Bool}
use Rattle.std.proofs.lemmas.Bool.Decides.{nat_tests}
use Rattle.std.proofs.lemmas.List.{take_at, drop_at, take_all}
use Rattle.cas_disk.specs.declared.name.Name.{Name}
use Rattle.cas_disk.specs.declared.name.Name.TheVariants.{Manifest, Log, Table, Import}
use Rattle.cas_disk.specs.declared.event.Event.{Event}
use Rattle.cas_disk.specs.declared.event.Event.TheVariants.{Create, Write, Sync, Remove, Draft, Admit}
use Rattle.cas_disk.specs.Names.{same_name}
use Rattle.cas_disk.specs.Disk.{Image, Changed, Torn, MayTear, Is, put_at}
use Rattle.cas_disk.specs.Inner.Past.{with_file, written, now, Left, LeftSince}

-- a name is itself
pub same_self : (n : Name) → same_name n n ≡ true
same_self Manifest = refl
same_self (Log n) = grind (arith, nat_tests)
same_self (Table n) = grind (arith, nat_tests)
same_self (Import n) = grind (arith, nat_tests)

pub same_is : (m n : Name) → same_name m n ≡ true → m ≡ n
same_is Manifest Manifest e = refl
same_is (Log m) (Log n) e = let s : m ≡ n = grind (arith, nat_tests) in ap (λ (k : ℕ). Log k) s
same_is (Table m) (Table n) e = let s : m ≡ n = grind (arith, nat_tests) in ap (λ (k : ℕ). Table k) s
same_is (Import m) (Import n) e = let s : m ≡ n = grind (arith, nat_tests) in ap (λ (k : ℕ). Import k) s
same_is Manifest (Log n) e = absurd (cc)
same_is Manifest (Table n) e = absurd (cc)
same_is Manifest (Import n) e = absurd (cc)
same_is (Log m) Manifest e = absurd (cc)
same_is (Log m) (Table n) e = absurd (cc)
same_is (Log m) (Import n) e = absurd (cc)
same_is (Table m) Manifest e = absurd (cc)
same_is (Table m) (Log n) e = absurd (cc)
same_is (Table m) (Import n) e = absurd (cc)
same_is (Import m) Manifest e = absurd (cc)
same_is (Import m) (Log n) e = absurd (cc)
same_is (Import m) (Table n) e = absurd (cc)

-- what stands under a name that was changed, and under another
pub with_file_here : (n : Name) (file : Option (List ℕ)) (c : Image) → with_file n file c n ≡ file
with_file_here n file c = ap (λ (b : Bool). if b then file else c n) (same_self n)

pub with_file_other : (n : Name) (file : Option (List ℕ)) (c : Image) (k : Name) → k ≢ n → with_file n file c k ≡ c k
with_file_other n file c k other = elim (cases_Bool (same_name n k)) [
  | inl is ↦ absurd (other (sym (same_is n k is)))
  | inr isnt ↦ ap (λ (b : Bool). if b then file else c k) isnt
]

pub with_file_changed : (n : Name) (change : Option (List ℕ) → Option (List ℕ) → Type 0) (file : Option (List ℕ)) (c : Image)
    → change (c n) file → Changed n change c (with_file n file c)
with_file_changed n change file c here = record {
  here = subst (λ (x : Option (List ℕ)). change (c n) x) (sym (with_file_here n file c)) here;
  others = λ k other. with_file_other n file c k other;
}

-- nothing written is one outcome of a write, and all of it is another
front_is : (at : ℕ) (file : List ℕ) → take (length (take at file)) file ≡ take at file
front_is zero file = refl
front_is (suc at) [] = refl
front_is (suc at) (b ∷ file) = ap (λ (l : List ℕ). b ∷ l) (front_is at file)

pub not_torn : (at n : ℕ) (file : List ℕ) → Torn at n file file
not_torn at n file = record {
  before = front_is at file;
  after = take_all (length (drop (at + n) file)) (drop (at + n) file) (omega arith);
  no_shorter = omega arith;
  no_longer = omega arith;
}

put_torn : (at : ℕ) (bytes file : List ℕ) → at ≤ length file → Torn at (length bytes) file (put_at at bytes file)
put_torn at bytes file reaches =
    let rest = drop (at + length bytes) file in
    let front : length (take at file) ≡ at = omega (arith, length-take at file) in
    let whole : length (put_at at bytes file) ≡ at + length bytes + length rest =
    omega (arith, length-append (take at file ++ bytes) rest, length-append (take at file) bytes, front) in
    let back : drop (at + length bytes) (put_at at bytes file) ≡ rest =
    drop_at (take at file ++ bytes) rest (at + length bytes) (omega (arith, length-append (take at file) bytes, front)) in
    record {
      before = ap (λ (l : List ℕ). take (length (take at file)) l) (append_assoc (take at file) bytes rest)
          ∙ take_at (take at file) (bytes ++ rest) (length (take at file)) refl;
      after = ap (λ (l : List ℕ). take (length rest) l) back ∙ take_all (length rest) rest (omega arith);
      no_shorter = omega (arith, whole, length-drop (at + length bytes) file);
      no_longer = omega (arith, whole, length-drop (at + length bytes) file);
    }

written_if : (at : ℕ) (bytes file : List ℕ) (b : Bool) → nat_le at (length file) ≡ b
    → MayTear at (length bytes) (Some file) (if b then Some (put_at at bytes file) else Some file)
written_if at bytes file true e = (put_at at bytes file, refl, put_torn at bytes file (grind (arith, nat_tests)))
written_if at bytes file false e = (file, refl, not_torn at (length bytes) file)

pub written_tears : (at : ℕ) (bytes : List ℕ) (file : Option (List ℕ)) → MayTear at (length bytes) file (written at bytes file)
written_tears at bytes None = refl
written_tears at bytes (Some file) = written_if at bytes file (nat_le at (length file)) refl

-- as it reads it is one of its images
pub now_left : (start : Image) (past : List Event) → Left start past (now start past)
now_left start [] = refl
now_left start (Create n ∷ past) = (now start past, now_left start past, with_file_changed n _ _ _ refl)
now_left start (Write n at bytes ∷ past) = (now start past, now_left start past, with_file_changed n _ _ _ (written_tears at bytes.items (now start past n)))
now_left start (Sync n ∷ past) = (now_left start past, record { here = refl; removed = λ manifest k other none. none })
now_left start (Remove n ∷ past) = (now start past, now_left start past, with_file_changed n _ _ _ (inr refl))
now_left start (Draft number ∷ past) = (now start past, now_left start past, record { here = tt; others = λ k other. refl })
now_left start (Admit number bytes ∷ past) = (now start past, now_left start past, with_file_changed (Table number) (Is bytes.items) _ _ refl)

-- moments
pub since_now : (start : Image) (past : List Event) (t : ℕ) (c : Image) → t ≤ length past → Left start past c → LeftSince start past t c
since_now start [] t c le left = left
since_now start (event ∷ past) t c le left = inl left

pub only_since : (start : Image) (past : List Event) (c : Image) → LeftSince start past (length past) c → Left start past c
only_since start [] c left = left
only_since start (event ∷ past) c left = ⊎_elim (λ now. now) (λ before. absurd (omega (arith, before.0))) left
