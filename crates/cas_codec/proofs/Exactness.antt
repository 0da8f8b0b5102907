-- Steps by which the reading of a whole is exact where those of its parts are.
use Rattle.std.proofs.Common.{◌≡◌, ℕ, ◌+◌, ◌<◌, Bool, true, false, cond, List, [], ◌++◌, length, take, drop, Result, Ok, Err, refl, sym, ap, subst, ◌∙◌, append_assoc, arith}
use Rattle.std.proofs.lemmas.List.{length-append, take_at, drop_at}
use Rattle.std.proofs.Math.Nat.{add-zero}
use Rattle.std.proofs.lemmas.List.Elements.{All-drop, All-take, All-same}
use Rattle.cas_codec.specs.declared.fault.ReadFault.{ReadFault}
use Rattle.cas_codec.specs.declared.fault.ReadFault.TheVariants.{Bad}
use Rattle.cas_codec.specs.Reading.{Left, Read, ◌>>=◌, checked}
use Rattle.cas_codec.specs.Exact.{AreBytes, Begins, IsExact, IsPrefixFree}

-- the value of a step that didn't fail
pub bind_ok : {A B : Type 0} (r : Result A ReadFault) (f : A → Result B ReadFault) (y : B) → (r >>= f) ≡ Ok y → (x : A) × (r ≡ Ok x) × (f x ≡ Ok y)
bind_ok (Ok x) f y e = (x, refl, e)
bind_ok (Err d) f y e = absurd cc

-- a test that didn't fail
pub test_ok : {A : Type 0} (b : Bool) (d : ReadFault) (x y : A) → cond b (Ok x) (Err d) ≡ Ok y → (b ≡ true) × (x ≡ y)
test_ok true d x y e = (refl, cc)
test_ok false d x y e = absurd cc

abbrev pub done : {A : Type 0} → A → Result A ReadFault
done x = Ok x

pub ok_is : {A : Type 0} (x y : A) → done x ≡ done y → x ≡ y
ok_is x y e = cc

abbrev pub read_left : List ℕ → ℕ → Left
read_left bytes at = record { bytes = bytes; at = at }

pub AreBytes-rest : (bytes text rest : List ℕ) → AreBytes bytes → bytes ≡ text ++ rest → AreBytes rest
AreBytes-rest bytes text rest are e =
    let rest-is : rest ≡ drop (length text) bytes = rw e (sym (drop_at text rest (length text) refl)) in
    record { each = All-same (λ b. b < 256) rest (drop (length text) bytes) rest-is (All-drop (λ b. b < 256) (length text) bytes are.each) }

pub AreBytes-front : (bytes text rest : List ℕ) → AreBytes bytes → bytes ≡ text ++ rest → AreBytes text
AreBytes-front bytes text rest are e =
    let front-is : text ≡ take (length text) bytes = rw e (sym (take_at text rest (length text) refl)) in
    record { each = All-same (λ b. b < 256) text (take (length text) bytes) front-is (All-take (λ b. b < 256) (length text) bytes are.each) }

pub Begins-then : (a b : List ℕ) (x y z : Left) → Begins a x y → Begins b y z → Begins (a ++ b) x z
Begins-then a b x y z p q = record {
  bytes = p.bytes ∙ ap (λ (t : List ℕ). a ++ t) q.bytes ∙ sym (append_assoc a b z.bytes);
  at = simp length-append (omega arith);
}

-- One field after another: the whole is spelled as the field, and then the rest. `IsPart a b` says that a is the
-- field's value in b. `body` reads the rest, and is told what was left before the field, the field's value and what is
-- left after it.
pub exact_then : {A B : Type 0} (FitsPart : A → Type 0) (part : A → List ℕ) (part_at : Left → Read A)
    (Fits : B → Type 0) (spelling : B → List ℕ) (IsPart : A → B → Type 0) (suffix : A → B → List ℕ) (body : Left → A → Left → Read B)
    → IsExact FitsPart part part_at
    → ((before : Left) (a : A) → FitsPart a → IsExact (λ b. Fits b × IsPart a b) (suffix a) (body before a))
    → ((b : B) → Fits b → (a : A) × FitsPart a × IsPart a b)
    → ((a : A) (b : B) → Fits b → IsPart a b → spelling b ≡ part a ++ suffix a b)
    → IsExact Fits spelling (λ left. part_at left >>= λ a. body left a.0 a.1)
exact_then {A} {B} FitsPart part part_at Fits spelling IsPart suffix body first others part_of spelled = record {
  found = λ old new b are e.
      let p = bind_ok (part_at old) (λ (a : A × Left). body old a.0 a.1) (b, new) e in
      let f = first.found old p.0.1 p.0.0 are p.1 in
      let o = (others old p.0.0 f.0).found p.0.1 new b (AreBytes-rest _ _ _ are f.1.bytes) p.2 in
      (o.0.0, rw (spelled p.0.0 b o.0.0 o.0.1) (Begins-then _ _ _ _ _ f.1 o.1));
  again = λ b rest at fit.
      let (a, fits-a, is) = part_of b fit in
      let whole : spelling b ++ rest ≡ part a ++ (suffix a b ++ rest) =
      ap (λ (t : List ℕ). t ++ rest) (spelled a b fit is) ∙ append_assoc _ _ rest in
      let long : length (spelling b) ≡ length (part a) + length (suffix a b) =
      ap length (spelled a b fit is) ∙ length-append (part a) (suffix a b) in
      let before : Left = record { bytes = spelling b ++ rest; at = at } in
      let front : part_at before ≡ Ok (a, record { bytes = suffix a b ++ rest; at = at + length (part a) }) =
      rw whole (first.again a (suffix a b ++ rest) at fits-a) in
      let back = (others before a fits-a).again b rest (at + length (part a)) (fit, is) in
      let place : at + length (part a) + length (suffix a b) ≡ at + length (spelling b) = omega arith in
      ap (λ (r : Read A). r >>= λ (a : A × Left). body before a.0 a.1) front ∙ back ∙ ap (λ (n : ℕ). done (b, read_left rest n)) place;
}

-- What is read without a byte: the one value that fits.
pub exact_done : {B : Type 0} (Fits : B → Type 0) (spelling : B → List ℕ) (x : B) → Fits x → ((b : B) → Fits b → (b ≡ x) × (spelling b ≡ []))
    → IsExact Fits spelling (λ left. Ok (x, left))
exact_done {B} Fits spelling x fits only = record {
  found = λ old new b are e.
      subst (λ (y : B × Left). Fits y.0 × Begins (spelling y.0) old y.1) (ok_is (x, old) (b, new) e)
      (fits, record { bytes = rw ((only x fits).1) refl; at = rw ((only x fits).1) (sym (add-zero old.at)) });
  again = λ b rest at fit.
      let o = only b fit in
      rw (o.1, o.0) (ap (λ (n : ℕ). done (x, read_left rest n)) (sym (add-zero at)));
}

-- What always refuses is the reading of a field that no value fits.
pub exact_never : {B : Type 0} (Fits : B → Type 0) (spelling : B → List ℕ) (f : ReadFault) → ((b : B) → Fits b → ⊥)
    → IsExact Fits spelling (λ left. Err f)
exact_never Fits spelling f never = record {
  found = λ old new b are e. absurd cc;
  again = λ b rest at fit. absurd (never b fit);
}

pub exact_checked : {A : Type 0} (Fits : A → Type 0) (spelling : A → List ℕ) (reading : Left → Read A) (test : A → Bool)
    → IsExact Fits spelling reading → IsExact (λ x. Fits x × (test x ≡ true)) spelling (checked test reading)
unfolding checked
exact_checked {A} Fits spelling reading test exact = record {
  found = λ old new b are e.
      let p = bind_ok (reading old) (λ (x : A × Left). cond (test x.0) (Ok x) (Err (Bad old.at))) (b, new) e in
      let t = test_ok (test p.0.0) (Bad old.at) p.0 (b, new) p.2 in
      let f = exact.found old new b are (p.1 ∙ ap (λ (y : A × Left). done y) t.1) in
      ((f.0, ap (λ (y : A × Left). test y.0) (sym t.1) ∙ t.0), f.1);
  again = λ b rest at fit. rw (exact.again b rest at fit.0, fit.1) refl;
}

-- Another way to say the same field.
pub exact_as : {A : Type 0} (Fits Fits' : A → Type 0) (spelling spelling' : A → List ℕ) (reading reading' : Left → Read A)
    → IsExact Fits spelling reading → ((x : A) → Fits x → Fits' x) → ((x : A) → Fits' x → Fits x) → ((x : A) → spelling' x ≡ spelling x) → ((left : Left) → reading' left ≡ reading left)
    → IsExact Fits' spelling' reading'
exact_as Fits Fits' spelling spelling' reading reading' exact there back same reads = record {
  found = λ old new x are e.
      let f = exact.found old new x are (sym (reads old) ∙ e) in
      (there x f.0, rw (same x) f.1);
  again = λ x rest at fit. rw (same x) (reads _ ∙ exact.again x rest at (back x fit));
}

-- A field whose values are made of another's.
pub exact_map : {A B : Type 0} (FitsPart : A → Type 0) (part : A → List ℕ) (part_at : Left → Read A)
    (Fits : B → Type 0) (spelling : B → List ℕ) (make : A → B)
    → IsExact FitsPart part part_at
    → ((a : A) → FitsPart a → Fits (make a) × (spelling (make a) ≡ part a))
    → ((b : B) → Fits b → (a : A) × FitsPart a × (make a ≡ b))
    → IsExact Fits spelling (λ left. part_at left >>= λ a. Ok (make a.0, a.1))
exact_map {A} {B} FitsPart part part_at Fits spelling make first made made_of = record {
  found = λ old new b are e.
      let p = bind_ok (part_at old) (λ (a : A × Left). Ok (make a.0, a.1)) (b, new) e in
      let f = first.found old p.0.1 p.0.0 are p.1 in
      let m = made p.0.0 f.0 in
      subst (λ (y : B × Left). Fits y.0 × Begins (spelling y.0) old y.1) (ok_is (make p.0.0, p.0.1) (b, new) p.2) (m.0, rw (m.1) f.1);
  again = λ b rest at fit.
      let (a, fits-a, is) = made_of b fit in
      let spelled : spelling b ≡ part a = ap spelling (sym is) ∙ (made a fits-a).1 in
      rw (spelled, first.again a rest at fits-a, is) refl;
}

-- Where a spelling is read whatever follows it, none begins another.
pub exact_alone : {A : Type 0} (Fits : A → Type 0) (spelling : A → List ℕ) (reading : Left → Read A)
    → IsExact Fits spelling reading → IsPrefixFree Fits spelling
exact_alone {A} Fits spelling reading exact x y rest others fits-x fits-y e =
    let first = exact.again x rest 0 fits-x in
    let second = exact.again y others 0 fits-y in
    let same = ok_is _ _ (sym first ∙ ap (λ (bytes : List ℕ). reading (read_left bytes 0)) e ∙ second) in
    (ap (λ (z : A × Left). z.0) same, ap (λ (z : A × Left). z.1.bytes) same)
