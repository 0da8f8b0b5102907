-- A reading takes just so many bytes, and what follows them makes no difference to it.
use Rattle.std.proofs.Common.{◌≡◌, ℕ, ◌+◌, ◌-◌, ◌≤◌, ltb, cond, Bool, true, false, List, [], ◌++◌, length, take, drop, Ok, Err, refl, sym, ap, ◌∙◌, arith, length-append, length-drop}
use Rattle.std.proofs.lemmas.Bool.Decides.{nat_tests}
use Rattle.std.proofs.lemmas.List.{append-nil, take-append-le, drop-append-le, drop-drop}
use Rattle.std.specs.Int.{Width, w8, w32, w64, byte_len, from_be_bytes}
use Rattle.cas_codec.specs.declared.fault.ReadFault.{ReadFault}
use Rattle.cas_codec.specs.declared.fault.ReadFault.TheVariants.{Bad, Short}
use Rattle.cas_codec.specs.Reading.{Left, Read, ◌>>=◌, checked, bytes_at, unsigned_at, u8_at, u32_at, u64_at}
use Rattle.cas_codec.proofs.Exactness.{bind_ok, test_ok, ok_is, done, read_left}

-- what follows the bytes is left, too
abbrev pub followed : {A : Type 0} → List ℕ → Read A → Read A
followed rest (Ok x) = Ok (x.0, read_left (x.1.bytes ++ rest) x.1.at)
followed rest (Err f) = Err f

pub followed_nothing : {A : Type 0} (rest : List ℕ) → rest ≡ [] → (r : Read A) → followed rest r ≡ r
followed_nothing rest none (Ok x) = ap (λ (l : List ℕ). done (x.0, read_left l x.1.at)) (ap (λ (l : List ℕ). x.1.bytes ++ l) none ∙ append-nil x.1.bytes)
followed_nothing rest none (Err f) = refl

-- where a step takes no notice of what follows, nor does what goes on from it
pub bind_followed : {A B : Type 0} (r : Read A) (rest : List ℕ) (f : A × Left → Read B)
    → ((x : A) (l : Left) → r ≡ Ok (x, l) → f (x, read_left (l.bytes ++ rest) l.at) ≡ followed rest (f (x, l)))
    → (followed rest r >>= f) ≡ followed rest (r >>= f)
bind_followed (Ok x) rest f so = so x.0 x.1 refl
bind_followed (Err e) rest f so = refl

pub cond_followed : {A : Type 0} (b : Bool) (rest : List ℕ) (x y z w : Read A) → z ≡ followed rest x → w ≡ followed rest y
    → cond b z w ≡ followed rest (cond b x y)
cond_followed true rest x y z w one other = one
cond_followed false rest x y z w one other = other

pub record Takes {A : Type 0} (n : ℕ) (r : Left → Read A) : Type 0 where
  pub again : (front rest : List ℕ) (at : ℕ) → n ≤ length front → r (read_left (front ++ rest) at) ≡ followed rest (r (read_left front at))
  pub left : (old new : Left) (x : A) → r old ≡ Ok (x, new) → (n ≤ length old.bytes) × (new ≡ read_left (drop n old.bytes) (old.at + n))

-- bytes
there_are : {A : Type 0} (b : Bool) (f : ReadFault) (x y : A) → cond b (Err f) (Ok x) ≡ Ok y → (b ≡ false) × (x ≡ y)
there_are true f x y e = absurd cc
there_are false f x y e = (refl, cc)

pub bytes_take : (place : ℕ → ℕ) (n : ℕ) → Takes n (λ l. bytes_at (place l.at) n l)
unfolding bytes_at
bytes_take place n = record {
  again = λ front rest at enough.
      let long : n ≤ length (front ++ rest) = omega (arith, length-append front rest) in
      let there : ltb (length front) n ≡ false = grind (arith, nat_tests) in
      let too : ltb (length (front ++ rest)) n ≡ false = grind (arith, nat_tests) in
      let all = done (take n (front ++ rest), read_left (drop n (front ++ rest)) (at + n)) in
      ap (λ (b : Bool). cond b (Err (Short (place at))) all) too
      ∙ (λ i. done (take-append-le n front rest enough i, read_left (drop-append-le n front rest enough i) (at + n)))
      ∙ ap (λ (b : Bool). followed rest (cond b (Err (Short (place at))) (done (take n front, read_left (drop n front) (at + n))))) (sym there);
  left = λ old new x e.
      let p = there_are (ltb (length old.bytes) n) (Short (place old.at)) (take n old.bytes, read_left (drop n old.bytes) (old.at + n)) (x, new) e in
      let long : ltb (length old.bytes) n ≡ false = p.0 in
      (grind (arith, nat_tests), sym (ap (λ (y : List ℕ × Left). y.1) p.1));
}

-- a value made of another's
pub made_take : {A B : Type 0} (n : ℕ) (r : Left → Read A) (make : A → B) → Takes n r → Takes n (λ l. r l >>= λ a. Ok (make a.0, a.1))
made_take {A} {B} n r make t = record {
  again = λ front rest at enough.
      ap (λ (x : Read A). x >>= λ a. Ok (make a.0, a.1)) (t.again front rest at enough)
      ∙ bind_followed (r (read_left front at)) rest (λ a. Ok (make a.0, a.1)) (λ x l e. refl);
  left = λ old new x e.
      let p = bind_ok (r old) (λ (a : A × Left). Ok (make a.0, a.1)) (x, new) e in
      let f = t.left old p.0.1 p.0.0 p.1 in
      (f.0, sym (ap (λ (y : B × Left). y.1) (ok_is (make p.0.0, p.0.1) (x, new) p.2)) ∙ f.1);
}

pub checked_take : {A : Type 0} (n : ℕ) (test : A → Bool) (r : Left → Read A) → Takes n r → Takes n (checked test r)
unfolding checked
checked_take {A} n test r t = record {
  again = λ front rest at enough.
      ap (λ (x : Read A). x >>= λ found. cond (test found.0) (Ok found) (Err (Bad at))) (t.again front rest at enough)
      ∙ bind_followed (r (read_left front at)) rest (λ found. cond (test found.0) (Ok found) (Err (Bad at)))
      (λ x l e. cond_followed (test x) rest (Ok (x, l)) (Err (Bad at)) (Ok (x, read_left (l.bytes ++ rest) l.at)) (Err (Bad at)) refl refl);
  left = λ old new x e.
      let p = bind_ok (r old) (λ (found : A × Left). cond (test found.0) (Ok found) (Err (Bad old.at))) (x, new) e in
      let q = test_ok (test p.0.0) (Bad old.at) p.0 (x, new) p.2 in
      let f = t.left old p.0.1 p.0.0 p.1 in
      (f.0, sym (ap (λ (y : A × Left). y.1) q.1) ∙ f.1);
}

-- one reading after another
pub both_take : {A B : Type 0} (n m : ℕ) (r : Left → Read A) (s : A → Left → Read B) → Takes n r → ((a : A) → Takes m (s a))
    → Takes (n + m) (λ l. r l >>= λ a. s a.0 a.1)
both_take {A} {B} n m r s t u = record {
  again = λ front rest at enough.
      ap (λ (x : Read A). x >>= λ a. s a.0 a.1) (t.again front rest at (omega (arith, enough)))
      ∙ bind_followed (r (read_left front at)) rest (λ a. s a.0 a.1) (λ x l e.
      let f = t.left (read_left front at) l x e in
      let long : length l.bytes ≡ length front - n = ap (λ (y : Left). length y.bytes) f.1 ∙ length-drop n front in
      (u x).again l.bytes rest l.at (omega (arith, enough, long)));
  left = λ old new x e.
      let p = bind_ok (r old) (λ (a : A × Left). s a.0 a.1) (x, new) e in
      let f = t.left old p.0.1 p.0.0 p.1 in
      let g = (u p.0.0).left p.0.1 new x p.2 in
      let long : length p.0.1.bytes ≡ length old.bytes - n = ap (λ (y : Left). length y.bytes) f.1 ∙ length-drop n old.bytes in
      let bytes : drop m p.0.1.bytes ≡ drop (n + m) old.bytes = ap (λ (y : Left). drop m y.bytes) f.1 ∙ drop-drop m n old.bytes in
      let place : p.0.1.at + m ≡ old.at + (n + m) = omega (arith, ap (λ (y : Left). y.at) f.1) in
      (omega (arith, f.0, g.0, long), g.1 ∙ (λ i. read_left (bytes i) (place i)));
}

number_takes : (w : Width) → Takes (byte_len w) (unsigned_at w)
unfolding unsigned_at
number_takes w = made_take (byte_len w) (λ l. bytes_at l.at (byte_len w) l) (from_be_bytes w) (bytes_take (λ at. at) (byte_len w))

pub u8_takes : Takes 1 u8_at
unfolding u8_at
u8_takes = number_takes w8

pub u32_takes : Takes 4 u32_at
unfolding u32_at
u32_takes = number_takes w32

pub u64_takes : Takes 8 u64_at
unfolding u64_at
u64_takes = number_takes w64
