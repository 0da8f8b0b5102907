-- Reading the things of a list one after the other, as a loop does.
use Rattle.std.proofs.Common.{◌≡◌, ℕ, suc, ◌-◌, ◌+◌, ◌≤◌, ◌<◌, List, [], ◌∷◌, ◌++◌, Option, None, Some, refl, sym, ap, ◌∙◌, append_assoc, arith}
use Rattle.std.proofs.lemmas.List.{append-nil}
use Rattle.cql_phrases.specs.declared.fault.ParseFault.{ParseFault}
use Rattle.cql_phrases.specs.declared.fault.ParseFault.TheVariants as faults
use Rattle.cql_phrases.specs.declared.lexeme.Lexeme.{Lexeme}
use Rattle.cql_phrases.specs.declared.lists.Separator.{Separator}
use Rattle.cql_phrases.specs.Inner.Reading.{Reader, done, and_then, Fails, after_separator, more_at}

-- what was read before, and what is still read
abbrev pub with_front : {A : Type 0} → List A → Option (List A × List Lexeme) → Option (List A × List Lexeme)
with_front front read = and_then read (λ xs. done (front ++ xs))

regroup : {A : Type 0} (front : List A) (x : A) (read : Option (List A × List Lexeme)) → with_front front (and_then read (λ xs. done (x ∷ xs))) ≡ with_front (front ++ x ∷ []) read
regroup front x None = refl
regroup front x (Some p) = ap (λ ys. Some (ys, p.1)) (sym (append_assoc front (x ∷ []) p.0))

pub goes_on : {A : Type 0} (s : Separator) (read : Reader A) (front : List A) (count i : ℕ) (l after left : List Lexeme) (x : A) (total : Option (List A × List Lexeme)) → i < count
    → after_separator s l ≡ Some after → read after ≡ Some (x, left)
    → with_front front (more_at s read (count - i) l) ≡ total → with_front (front ++ x ∷ []) (more_at s read (count - (i + 1)) left) ≡ total
unfolding more_at
goes_on s read front count i l after left x total lt h e so_far =
    let k : count - i ≡ suc (count - (i + 1)) = omega arith in
    let one : with_front front (more_at s read (count - i) l) ≡ with_front (front ++ x ∷ []) (more_at s read (count - (i + 1)) left) = rw (k, h, e) (regroup front x (more_at s read (count - (i + 1)) left)) in
    sym one ∙ so_far

pub stops : {A : Type 0} (s : Separator) (read : Reader A) (front : List A) (count i : ℕ) (l after : List Lexeme) (e : ParseFault) (total : Option (List A × List Lexeme)) → i < count
    → after_separator s l ≡ Some after → Fails e (read after)
    → with_front front (more_at s read (count - i) l) ≡ total → Fails e total
unfolding more_at
stops s read front count i l after faults.Mem total lt h f so_far = tt
stops s read front count i l after faults.Syntax total lt h f so_far =
    let k : count - i ≡ suc (count - (i + 1)) = omega arith in
    let one : with_front front (more_at s read (count - i) l) ≡ None = rw (k, h, f) refl in
    sym so_far ∙ one

pub ends : {A : Type 0} (s : Separator) (read : Reader A) (front : List A) (count i : ℕ) (l : List Lexeme) (total : Option (List A × List Lexeme)) → i < count
    → after_separator s l ≡ None
    → with_front front (more_at s read (count - i) l) ≡ total → total ≡ Some (front, l)
unfolding more_at
ends s read front count i l total lt h so_far =
    let k : count - i ≡ suc (count - (i + 1)) = omega arith in
    let one : with_front front (more_at s read (count - i) l) ≡ Some (front, l) = rw (k, h) (ap (λ ys. Some (ys, l)) (append-nil front)) in
    sym so_far ∙ one

pub counted : {A : Type 0} (s : Separator) (read : Reader A) (front : List A) (count i : ℕ) (l : List Lexeme) (total : Option (List A × List Lexeme)) → count ≤ i
    → with_front front (more_at s read (count - i) l) ≡ total → total ≡ Some (front, l)
unfolding more_at
counted s read front count i l total le so_far =
    let k : count - i ≡ 0 = omega arith in
    let one : with_front front (more_at s read (count - i) l) ≡ Some (front, l) = rw k (ap (λ ys. Some (ys, l)) (append-nil front)) in
    sym so_far ∙ one
