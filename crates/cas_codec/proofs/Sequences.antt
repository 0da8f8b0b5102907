-- Readings of several fields, one after another, whose values make one value.
use Rattle.std.proofs.Common.{◌≡◌, ℕ, ◌+◌, ◌^◌, ◌<◌, true, cond, eqb, List, [], ◌∷◌, ◌++◌, length, Result, Ok, Err, refl, sym, ap, subst, ◌∙◌, append_assoc, arith}
use Rattle.std.proofs.lemmas.Bool.{eqb-true}
use Rattle.std.proofs.lemmas.List.{length-append, append-nil}
use Rattle.cas_codec.specs.declared.fault.ReadFault.{ReadFault}
use Rattle.cas_codec.specs.declared.fault.ReadFault.TheVariants.{Bad}
use Rattle.cas_codec.specs.Reading.{Left, Read, ◌>>=◌, bytes32_at, enclosed_at}
use Rattle.cas_codec.specs.Fields.{u32, bytes32}
use Rattle.cas_codec.specs.Exact.{AreBytes, Begins, IsExact}
use Rattle.cas_codec.proofs.Exactness.{bind_ok, test_ok, ok_is, done, read_left, AreBytes-rest, AreBytes-front, Begins-then, exact_as}
use Rattle.cas_codec.proofs.FieldLaws.{bytes32_field}

bind_assoc : {A B C : Type 0} (r : Result A ReadFault) (f : A → Result B ReadFault) (g : B → Result C ReadFault)
    → ((r >>= f) >>= g) ≡ (r >>= (λ x. f x >>= g))
bind_assoc (Ok x) f g = refl
bind_assoc (Err e) f g = refl

bind_same : {A B : Type 0} (r : Result A ReadFault) (f g : A → Result B ReadFault) → ((x : A) → f x ≡ g x) → (r >>= f) ≡ (r >>= g)
bind_same (Ok x) f g same = same x
bind_same (Err e) f g same = refl

-- two fields; the second may be read by what the first is
pub exact_two : {A B C : Type 0} (FitsA : A → Type 0) (sa : A → List ℕ) (ra : Left → Read A)
    (FitsB : A → B → Type 0) (sb : B → List ℕ) (rb : A → Left → Read B)
    (Fits : C → Type 0) (spelling : C → List ℕ) (make : A → B → C)
    → IsExact FitsA sa ra
    → ((a : A) → FitsA a → IsExact (FitsB a) sb (rb a))
    → ((a : A) (b : B) → FitsA a → FitsB a b → Fits (make a b) × (spelling (make a b) ≡ sa a ++ sb b))
    → ((c : C) → Fits c → (a : A) × (b : B) × FitsA a × FitsB a b × (make a b ≡ c))
    → IsExact Fits spelling (λ left. ra left >>= λ a. rb a.0 a.1 >>= λ b. Ok (make a.0 b.0, b.1))
exact_two {A} {B} {C} FitsA sa ra FitsB sb rb Fits spelling make first second made made_of = record {
  found = λ old new c are e.
      let p = bind_ok (ra old) (λ (a : A × Left). rb a.0 a.1 >>= λ (b : B × Left). Ok (make a.0 b.0, b.1)) (c, new) e in
      let f = first.found old p.0.1 p.0.0 are p.1 in
      let q = bind_ok (rb p.0.0 p.0.1) (λ (b : B × Left). Ok (make p.0.0 b.0, b.1)) (c, new) p.2 in
      let g = (second p.0.0 f.0).found p.0.1 q.0.1 q.0.0 (AreBytes-rest _ _ _ are f.1.bytes) q.1 in
      let m = made p.0.0 q.0.0 f.0 g.0 in
      subst (λ (y : C × Left). Fits y.0 × Begins (spelling y.0) old y.1) (ok_is (make p.0.0 q.0.0, q.0.1) (c, new) q.2)
      (m.0, rw (m.1) (Begins-then _ _ _ _ _ f.1 g.1));
  again = λ c rest at fit.
      let (a, b, fits-a, fits-b, is) = made_of c fit in
      let m = made a b fits-a fits-b in
      let spelled : spelling c ≡ sa a ++ sb b = ap spelling (sym is) ∙ m.1 in
      let whole : spelling c ++ rest ≡ sa a ++ (sb b ++ rest) =
      ap (λ (t : List ℕ). t ++ rest) spelled ∙ append_assoc (sa a) (sb b) rest in
      let long : length (spelling c) ≡ length (sa a) + length (sb b) = ap length spelled ∙ length-append (sa a) (sb b) in
      let front : ra (read_left (spelling c ++ rest) at) ≡ Ok (a, read_left (sb b ++ rest) (at + length (sa a))) =
      rw whole (first.again a (sb b ++ rest) at fits-a) in
      let back = (second a fits-a).again b rest (at + length (sa a)) fits-b in
      let place : at + length (sa a) + length (sb b) ≡ at + length (spelling c) = omega arith in
      ap (λ (r : Read A). r >>= λ (x : A × Left). rb x.0 x.1 >>= λ (y : B × Left). Ok (make x.0 y.0, y.1)) front
      ∙ ap (λ (r : Read B). r >>= λ (y : B × Left). Ok (make a y.0, y.1)) back
      ∙ ap (λ (n : ℕ). done (make a b, read_left rest n)) place
      ∙ ap (λ (x : C). done (x, read_left rest (at + length (spelling c)))) is;
}

-- three fields
pub exact_three : {A B C D : Type 0} (FitsA : A → Type 0) (sa : A → List ℕ) (ra : Left → Read A)
    (FitsB : A → B → Type 0) (sb : B → List ℕ) (rb : A → Left → Read B)
    (FitsC : A → B → C → Type 0) (sc : C → List ℕ) (rc : A → B → Left → Read C)
    (Fits : D → Type 0) (spelling : D → List ℕ) (make : A → B → C → D)
    → IsExact FitsA sa ra
    → ((a : A) → FitsA a → IsExact (FitsB a) sb (rb a))
    → ((a : A) (b : B) → FitsA a → FitsB a b → IsExact (FitsC a b) sc (rc a b))
    → ((a : A) (b : B) (c : C) → FitsA a → FitsB a b → FitsC a b c → Fits (make a b c) × (spelling (make a b c) ≡ sa a ++ (sb b ++ sc c)))
    → ((d : D) → Fits d → (a : A) × (b : B) × (c : C) × FitsA a × FitsB a b × FitsC a b c × (make a b c ≡ d))
    → IsExact Fits spelling (λ left. ra left >>= λ a. rb a.0 a.1 >>= λ b. rc a.0 b.0 b.1 >>= λ c. Ok (make a.0 b.0 c.0, c.1))
exact_three {A} {B} {C} {D} FitsA sa ra FitsB sb rb FitsC sc rc Fits spelling make first second third made made_of =
    let pair_at : A → Left → Read (B × C) = λ a left. rb a left >>= λ b. rc a b.0 b.1 >>= λ c. Ok ((b.0, c.0), c.1) in
    let FitsPair : A → B × C → Type 0 = λ a p. FitsB a p.0 × FitsC a p.0 p.1 in
    let whole = exact_two FitsA sa ra FitsPair (λ (p : B × C). sb p.0 ++ sc p.1) pair_at Fits spelling (λ (a : A) (p : B × C). make a p.0 p.1)
    first
    (λ a fits-a. exact_two (FitsB a) sb (rb a) (FitsC a) sc (rc a) (FitsPair a) (λ (p : B × C). sb p.0 ++ sc p.1) (λ (b : B) (c : C). (b, c))
    (second a fits-a)
    (λ b fits-b. third a b fits-a fits-b)
    (λ b c fits-b fits-c. ((fits-b, fits-c), refl))
    (λ p fit. (p.0, p.1, fit.0, fit.1, refl)))
    (λ a p fits-a fit. made a p.0 p.1 fits-a fit.0 fit.1)
    (λ d fit. let m = made_of d fit in (m.0, (m.1, m.2), m.3, (m.4, m.5), m.6)) in
    exact_as Fits Fits spelling spelling _ (λ left. ra left >>= λ a. rb a.0 a.1 >>= λ b. rc a.0 b.0 b.1 >>= λ c. Ok (make a.0 b.0 c.0, c.1))
    whole (λ d fit. fit) (λ d fit. fit) (λ d. refl)
    (λ left. bind_same (ra left) _ _ (λ a.
    sym (bind_assoc (rb a.0 a.1) (λ b. rc a.0 b.0 b.1 >>= λ c. Ok ((b.0, c.0), c.1)) (λ p. Ok (make a.0 p.0.0 p.0.1, p.1))
    ∙ bind_same (rb a.0 a.1) _ _ (λ b. bind_assoc (rc a.0 b.0 b.1) (λ c. Ok ((b.0, c.0), c.1)) (λ p. Ok (make a.0 p.0.0 p.0.1, p.1))))))

-- four fields
pub exact_four : {A B C D E : Type 0} (FitsA : A → Type 0) (sa : A → List ℕ) (ra : Left → Read A)
    (FitsB : A → B → Type 0) (sb : B → List ℕ) (rb : A → Left → Read B)
    (FitsC : A → B → C → Type 0) (sc : C → List ℕ) (rc : A → B → Left → Read C)
    (FitsD : A → B → C → D → Type 0) (sd : D → List ℕ) (rd : A → B → C → Left → Read D)
    (Fits : E → Type 0) (spelling : E → List ℕ) (make : A → B → C → D → E)
    → IsExact FitsA sa ra
    → ((a : A) → FitsA a → IsExact (FitsB a) sb (rb a))
    → ((a : A) (b : B) → FitsA a → FitsB a b → IsExact (FitsC a b) sc (rc a b))
    → ((a : A) (b : B) (c : C) → FitsA a → FitsB a b → FitsC a b c → IsExact (FitsD a b c) sd (rd a b c))
    → ((a : A) (b : B) (c : C) (d : D) → FitsA a → FitsB a b → FitsC a b c → FitsD a b c d
    → Fits (make a b c d) × (spelling (make a b c d) ≡ sa a ++ (sb b ++ (sc c ++ sd d))))
    → ((e : E) → Fits e → (a : A) × (b : B) × (c : C) × (d : D) × FitsA a × FitsB a b × FitsC a b c × FitsD a b c d × (make a b c d ≡ e))
    → IsExact Fits spelling
    (λ left. ra left >>= λ a. rb a.0 a.1 >>= λ b. rc a.0 b.0 b.1 >>= λ c. rd a.0 b.0 c.0 c.1 >>= λ d. Ok (make a.0 b.0 c.0 d.0, d.1))
exact_four {A} {B} {C} {D} {E} FitsA sa ra FitsB sb rb FitsC sc rc FitsD sd rd Fits spelling make first second third fourth made made_of =
    let pair_at : A → B → Left → Read (C × D) = λ a b left. rc a b left >>= λ c. rd a b c.0 c.1 >>= λ d. Ok ((c.0, d.0), d.1) in
    let FitsPair : A → B → C × D → Type 0 = λ a b p. FitsC a b p.0 × FitsD a b p.0 p.1 in
    let whole = exact_three FitsA sa ra FitsB sb rb FitsPair (λ (p : C × D). sc p.0 ++ sd p.1) pair_at Fits spelling
    (λ (a : A) (b : B) (p : C × D). make a b p.0 p.1)
    first second
    (λ a b fits-a fits-b. exact_two (FitsC a b) sc (rc a b) (FitsD a b) sd (rd a b) (FitsPair a b) (λ (p : C × D). sc p.0 ++ sd p.1) (λ (c : C) (d : D). (c, d))
    (third a b fits-a fits-b)
    (λ c fits-c. fourth a b c fits-a fits-b fits-c)
    (λ c d fits-c fits-d. ((fits-c, fits-d), refl))
    (λ p fit. (p.0, p.1, fit.0, fit.1, refl)))
    (λ a b p fits-a fits-b fit. made a b p.0 p.1 fits-a fits-b fit.0 fit.1)
    (λ e fit. let m = made_of e fit in (m.0, m.1, (m.2, m.3), m.4, m.5, (m.6, m.7), m.8)) in
    exact_as Fits Fits spelling spelling _
    (λ left. ra left >>= λ a. rb a.0 a.1 >>= λ b. rc a.0 b.0 b.1 >>= λ c. rd a.0 b.0 c.0 c.1 >>= λ d. Ok (make a.0 b.0 c.0 d.0, d.1))
    whole (λ e fit. fit) (λ e fit. fit) (λ e. refl)
    (λ left. bind_same (ra left) _ _ (λ a. bind_same (rb a.0 a.1) _ _ (λ b.
    sym (bind_assoc (rc a.0 b.0 b.1) (λ c. rd a.0 b.0 c.0 c.1 >>= λ d. Ok ((c.0, d.0), d.1)) (λ p. Ok (make a.0 b.0 p.0.0 p.0.1, p.1))
    ∙ bind_same (rc a.0 b.0 b.1) _ _ (λ c. bind_assoc (rd a.0 b.0 c.0 c.1) (λ d. Ok ((c.0, d.0), d.1)) (λ p. Ok (make a.0 b.0 p.0.0 p.0.1, p.1)))))))

-- ---- what fills the bytes after their number

nothing_left : (xs : List ℕ) → eqb (length xs) 0 ≡ true → xs ≡ []
nothing_left [] e = refl
nothing_left (x ∷ xs) e = let none : length (x ∷ xs) ≡ 0 = eqb-true (length (x ∷ xs)) 0 e in absurd (omega arith)

inner_bytes : (b rest bytes : List ℕ) → AreBytes bytes → bytes ≡ bytes32 b ++ rest → AreBytes b
unfolding bytes32
inner_bytes b rest bytes are e = AreBytes-rest (bytes32 b) (u32 (length b)) b (AreBytes-front bytes (bytes32 b) rest are e) refl

pub exact_enclosed : {A : Type 0} (Fits : A → Type 0) (spelling : A → List ℕ) (reading : Left → Read A) → IsExact Fits spelling reading
    → IsExact (λ x. Fits x × (length (spelling x) < 2 ^ 32)) (λ x. bytes32 (spelling x)) (enclosed_at reading)
unfolding enclosed_at
exact_enclosed {A} Fits spelling reading exact = record {
  found = λ old new x are e.
      let p = bind_ok (bytes32_at old) (λ (bytes : List ℕ × Left). reading (read_left bytes.0 (old.at + 4))
      >>= λ (found : A × Left). cond (eqb (length found.1.bytes) 0) (Ok (found.0, bytes.1)) (Err (Bad found.1.at))) (x, new) e in
      let f = bytes32_field.exact.found old p.0.1 p.0.0 are p.1 in
      let q = bind_ok (reading (read_left p.0.0 (old.at + 4)))
      (λ (found : A × Left). cond (eqb (length found.1.bytes) 0) (Ok (found.0, p.0.1)) (Err (Bad found.1.at))) (x, new) p.2 in
      let t = test_ok (eqb (length q.0.1.bytes) 0) (Bad q.0.1.at) (q.0.0, p.0.1) (x, new) q.2 in
      let g = exact.found (read_left p.0.0 (old.at + 4)) q.0.1 q.0.0 (inner_bytes p.0.0 p.0.1.bytes old.bytes are f.1.bytes) q.1 in
      let all : p.0.0 ≡ spelling q.0.0 =
      g.1.bytes ∙ ap (λ (xs : List ℕ). spelling q.0.0 ++ xs) (nothing_left q.0.1.bytes t.0) ∙ append-nil (spelling q.0.0) in
      subst (λ (y : A × Left). (Fits y.0 × (length (spelling y.0) < 2 ^ 32)) × Begins (bytes32 (spelling y.0)) old y.1) t.1
      ((g.0, subst (λ (xs : List ℕ). length xs < 2 ^ 32) all f.0), subst (λ (xs : List ℕ). Begins (bytes32 xs) old p.0.1) all f.1);
  again = λ x rest at fit.
      let inner : reading (read_left (spelling x) (at + 4)) ≡ Ok (x, read_left [] (at + 4 + length (spelling x))) =
      ap (λ (xs : List ℕ). reading (read_left xs (at + 4))) (sym (append-nil (spelling x))) ∙ exact.again x [] (at + 4) fit.0 in
      rw (bytes32_field.exact.again (spelling x) rest at fit.1, inner) refl;
}
