-- Each field is read exactly.
use Rattle.std.proofs.Common.{◌≡◌, ℕ, zero, suc, ◌+◌, ◌-◌, ◌^◌, ◌<◌, ◌≤◌, ◌⊎◌, Bool, true, false, cond, ltb, eqb, List, [], ◌∷◌, ◌++◌, length, get_or, take, drop, Option, Some, None, Result, Ok, Err, refl, sym, ap, subst, ◌∙◌, append_assoc, arith, inl, inr}
use Rattle.std.specs.Prelude.{replicate, FitsSigned, IfSome, is_some}
use Rattle.std.specs.Int.{Width, w8, w16, w32, w64, byte_len, from_be_bytes, cast_signed, cast_unsigned}
use Rattle.std.proofs.lemmas.Bool.{cases_lt, ltb-false, le-ltb, ltb-true}
use Rattle.std.proofs.lemmas.List.{length-append, length-take-le, length-replicate, take_at, drop_at, take-append-drop, get_or_past}
use Rattle.std.proofs.lemmas.List.Elements.{All-append, All-replicate}
use Rattle.std.proofs.lemmas.Nat.{be_bytes_2, be_bytes_4, be_bytes_8, from_be_bytes-to_be_bytes_2, from_be_bytes-to_be_bytes_4, from_be_bytes-to_be_bytes_8}
use Rattle.std.proofs.lemmas.Int.{of_z-to_z, to_z-of_z}
use Rattle.std.proofs.Math.Facts.{sfits_to_z, Fits-of_lt, Fits-lt-pow, Fits-of_z}
use Rattle.cas_codec.specs.declared.fault.ReadFault.{ReadFault}
use Rattle.cas_codec.specs.declared.fault.ReadFault.TheVariants.{Short, Bad, Mem}
use Rattle.cas_codec.specs.Reading.{Left, Read, ◌>>=◌, checked, bytes_at, unsigned_at, u8_at, u16_at, u32_at, u64_at, i64_at, flag_at, there_at, maybe_at, bytes16_at, bytes32_at}
use Rattle.cas_codec.specs.Fields.{u8, u16, u32, u64, i64, bytes16, bytes32, flag, maybe}
use Rattle.cas_codec.specs.Exact.{AreBytes, Begins, IsExact, IsField, IsCutShort, HasNone, Refuses}
use Rattle.cas_codec.proofs.Exactness.{bind_ok, ok_is, done, read_left, AreBytes-front, exact_then, exact_done, exact_checked, exact_map, exact_alone, exact_as}

-- a guard that was passed
guard_ok : {A : Type 0} (b : Bool) (d : ReadFault) (x y : A) → cond b (Err d) (Ok x) ≡ Ok y → (b ≡ false) × (x ≡ y)
guard_ok true d x y e = absurd cc
guard_ok false d x y e = (refl, cc)

-- a guard that wasn't
guard_err : {A : Type 0} (b : Bool) (d f : ReadFault) (x : A) → cond b (Err d) (Ok x) ≡ Err f → (b ≡ true) × (d ≡ f)
guard_err true d f x e = (refl, cc)
guard_err false d f x e = absurd cc

-- which of two steps failed
bind_err : {A B : Type 0} (r : Result A ReadFault) (g : A → Result B ReadFault) (f : ReadFault) → (r >>= g) ≡ Err f
    → (r ≡ Err f) ⊎ ((x : A) × (r ≡ Ok x) × (g x ≡ Err f))
bind_err (Ok x) g f e = inr (x, refl, e)
bind_err (Err d) g f e = inl cc

-- ---- bytes

bytes_found : (place n : ℕ) (old new : Left) (x : List ℕ) → bytes_at place n old ≡ Ok (x, new) → (length x ≡ n) × Begins x old new
unfolding bytes_at
bytes_found place n old new x e =
    let g = guard_ok (ltb (length old.bytes) n) (Short place) (take n old.bytes, read_left (drop n old.bytes) (old.at + n)) (x, new) e in
    let long : n ≤ length old.bytes = ltb-false _ _ g.0 in
    let len : length (take n old.bytes) ≡ n = length-take-le n old.bytes long in
    subst (λ (y : List ℕ × Left). (length y.0 ≡ n) × Begins y.0 old y.1) g.1
    (len, record { bytes = sym (take-append-drop n old.bytes); at = rw len refl })

bytes_again : (place n : ℕ) (x rest : List ℕ) (at : ℕ) → length x ≡ n → bytes_at place n (read_left (x ++ rest) at) ≡ Ok (x, read_left rest (at + n))
unfolding bytes_at
bytes_again place n x rest at len =
    let long : ltb (length (x ++ rest)) n ≡ false = le-ltb _ _ (omega (arith, length-append x rest)) in
    rw (long, take_at x rest n len, drop_at x rest n len) refl

bytes_refused : (place n : ℕ) (left : Left) (f : ReadFault) → bytes_at place n left ≡ Err f → (f ≡ Short place) × (length left.bytes < n)
unfolding bytes_at
bytes_refused place n left f e =
    let g = guard_err (ltb (length left.bytes) n) (Short place) f (take n left.bytes, read_left (drop n left.bytes) (left.at + n)) e in
    (sym g.1, ltb-true _ _ g.0)

pub exact_bytes : (place : Left → ℕ) (n : ℕ) → IsExact (λ x. length x ≡ n) (λ x. x) (λ left. bytes_at (place left) n left)
exact_bytes place n = record {
  found = λ old new x are e. bytes_found (place old) n old new x e;
  again = λ x rest at fit. rw fit (bytes_again (place (read_left (x ++ rest) at)) n x rest at fit);
}

-- bytes and as many zeros as lack
padded : List ℕ → ℕ → List ℕ
padded bytes n = bytes ++ replicate (n - length bytes) 0

length-padded : (bytes : List ℕ) (n : ℕ) → length bytes < n → length (padded bytes n) ≡ n
unfolding padded
length-padded bytes n short = simp (length-append, length-replicate) (omega arith)

AreBytes-padded : (bytes : List ℕ) (n : ℕ) → AreBytes bytes → AreBytes (padded bytes n)
unfolding padded
AreBytes-padded bytes n are = record { each = All-append (λ b. b < 256) bytes _ are.each (All-replicate (λ b. b < 256) _ 0 (omega arith)) }

-- the beginning of n bytes
bytes_cut_short : (n : ℕ) (bytes : List ℕ) → length bytes < n → IsCutShort (λ x. length x ≡ n) (λ x. x) bytes
unfolding padded
bytes_cut_short n bytes short = record {
  value = padded bytes n;
  more = replicate (n - length bytes) 0;
  fits = length-padded bytes n short;
  lacks = simp length-replicate (omega arith);
  spelled = refl;
}

pub bytes_field : (n : ℕ) → IsField (λ x. length x ≡ n) (λ x. x) (λ left. bytes_at left.at n left)
bytes_field n = record {
  exact = exact_bytes (λ left. left.at) n;
  alone = exact_alone _ _ _ (exact_bytes (λ left. left.at) n);
  refused = λ left f are e.
      let r = bytes_refused left.at n left f e in
      rw (r.0) (refl, bytes_cut_short n left.bytes r.1);
}

-- ---- unsigned numbers

record IsWide (w : Width) (limit : ℕ) (spelling : ℕ → List ℕ) : Type 0 where
  pub len : (n : ℕ) → length (spelling n) ≡ byte_len w
  pub back : (bytes : List ℕ) → length bytes ≡ byte_len w → AreBytes bytes → spelling (from_be_bytes w bytes) ≡ bytes
  pub again : (n : ℕ) → n < limit → from_be_bytes w (spelling n) ≡ n
  pub below : (bytes : List ℕ) → length bytes ≡ byte_len w → AreBytes bytes → from_be_bytes w bytes < limit

-- each byte is below 256, and past the end stands 0
below_256 : (bytes : List ℕ) → AreBytes bytes → (i : ℕ) → get_or bytes i 0 < 256
below_256 bytes are i =
    elim (cases_lt i (length bytes)) [
      | inl lt ↦ are.each i 0 lt
      | inr le ↦ rw (get_or_past bytes i 0 le) (omega arith)
    ]

one_byte : (bytes : List ℕ) → length bytes ≡ 1 → get_or bytes 0 0 ∷ [] ≡ bytes
one_byte [] len = absurd (omega arith)
one_byte (b ∷ []) len = refl
one_byte (b ∷ c ∷ bytes) len = absurd (omega arith)

wide8 : IsWide w8 (2 ^ 8) u8
unfolding u8
wide8 = record {
  len = λ n. refl;
  back = λ bytes len are. one_byte bytes len;
  again = λ n lt. refl;
  below = λ bytes len are. below_256 bytes are 0;
}

wide16 : IsWide w16 (2 ^ 16) u16
unfolding u16
wide16 = record {
  len = λ n. refl;
  back = λ bytes len are. be_bytes_2 bytes _ len (below_256 bytes are) refl;
  again = λ n lt. from_be_bytes-to_be_bytes_2 n lt;
  below = λ bytes len are. let fits = below_256 bytes are in omega (arith, fits 0, fits 1);
}

wide32 : IsWide w32 (2 ^ 32) u32
unfolding u32
wide32 = record {
  len = λ n. refl;
  back = λ bytes len are. be_bytes_4 bytes _ len (below_256 bytes are) refl;
  again = λ n lt. from_be_bytes-to_be_bytes_4 n lt;
  below = λ bytes len are. let fits = below_256 bytes are in omega (arith, fits 0, fits 1, fits 2, fits 3);
}

wide64 : IsWide w64 (2 ^ 64) u64
unfolding u64
wide64 = record {
  len = λ n. refl;
  back = λ bytes len are. be_bytes_8 bytes _ len (below_256 bytes are) refl;
  again = λ n lt. from_be_bytes-to_be_bytes_8 n lt;
  below = λ bytes len are. let fits = below_256 bytes are in
      omega (arith, fits 0, fits 1, fits 2, fits 3, fits 4, fits 5, fits 6, fits 7);
}

number_exact : (w : Width) (limit : ℕ) (spelling : ℕ → List ℕ) → IsWide w limit spelling → IsExact (λ n. n < limit) spelling (unsigned_at w)
unfolding unsigned_at
number_exact w limit spelling wide = record {
  found = λ old new n are e.
      let p = bind_ok (bytes_at old.at (byte_len w) old) (λ (front : List ℕ × Left). Ok (from_be_bytes w front.0, front.1)) (n, new) e in
      let f = bytes_found old.at (byte_len w) old p.0.1 p.0.0 p.1 in
      let front : AreBytes p.0.0 = AreBytes-front _ _ _ are f.1.bytes in
      subst (λ (y : ℕ × Left). (y.0 < limit) × Begins (spelling y.0) old y.1) (ok_is (from_be_bytes w p.0.0, p.0.1) (n, new) p.2)
      (wide.below p.0.0 f.0 front, rw (wide.back p.0.0 f.0 front) f.1);
  again = λ n rest at lt.
      rw (bytes_again at (byte_len w) (spelling n) rest at (wide.len n), wide.again n lt, wide.len n) refl;
}

-- the beginning of a number's spelling, with zeros in place of what lacks
number_cut : (w : Width) (limit : ℕ) (spelling : ℕ → List ℕ) → IsWide w limit spelling → (bytes : List ℕ) → AreBytes bytes → length bytes < byte_len w
    → IsCutShort (λ n. n < limit) spelling bytes
unfolding padded
number_cut w limit spelling wide bytes are short = record {
  value = from_be_bytes w (padded bytes (byte_len w));
  more = replicate (byte_len w - length bytes) 0;
  fits = wide.below _ (length-padded bytes (byte_len w) short) (AreBytes-padded bytes (byte_len w) are);
  lacks = simp length-replicate (omega arith);
  spelled = sym (wide.back (padded bytes (byte_len w)) (length-padded bytes (byte_len w) short) (AreBytes-padded bytes (byte_len w) are));
}

not_both : {A : Type 0} (x : A) (f : ReadFault) → done x ≡ Err f → ⊥
not_both x f e = cc

number_refused : (w : Width) (left : Left) (f : ReadFault) → unsigned_at w left ≡ Err f → (f ≡ Short left.at) × (length left.bytes < byte_len w)
unfolding unsigned_at
number_refused w left f e =
    elim (bind_err (bytes_at left.at (byte_len w) left) (λ (front : List ℕ × Left). Ok (from_be_bytes w front.0, front.1)) f e) [
      | inl r ↦ bytes_refused left.at (byte_len w) left f r
      | inr s ↦ absurd (not_both _ f s.2)
    ]

number_field : (w : Width) (limit : ℕ) (spelling : ℕ → List ℕ) → IsWide w limit spelling → IsField (λ n. n < limit) spelling (unsigned_at w)
number_field w limit spelling wide = record {
  exact = number_exact w limit spelling wide;
  alone = exact_alone _ _ _ (number_exact w limit spelling wide);
  refused = λ left f are e.
      let r = number_refused w left f e in
      rw (r.0) (refl, number_cut w limit spelling wide left.bytes are r.1);
}

pub u8_field : IsField (λ n. n < 2 ^ 8) u8 u8_at
unfolding u8_at
u8_field = number_field w8 (2 ^ 8) u8 wide8

pub u16_field : IsField (λ n. n < 2 ^ 16) u16 u16_at
unfolding u16_at
u16_field = number_field w16 (2 ^ 16) u16 wide16

pub u32_field : IsField (λ n. n < 2 ^ 32) u32 u32_at
unfolding u32_at
u32_field = number_field w32 (2 ^ 32) u32 wide32

pub u64_field : IsField (λ n. n < 2 ^ 64) u64 u64_at
unfolding u64_at
u64_field = number_field w64 (2 ^ 64) u64 wide64

-- ---- a field whose values are made of another's

refuses_made : {A B : Type 0} (FitsPart : A → Type 0) (part : A → List ℕ) (Fits : B → Type 0) (spelling : B → List ℕ) (make : A → B)
    → ((a : A) → FitsPart a → Fits (make a) × (spelling (make a) ≡ part a))
    → ((b : B) → Fits b → (a : A) × FitsPart a × (make a ≡ b))
    → (left : Left) (f : ReadFault) → Refuses FitsPart part left f → Refuses Fits spelling left f
refuses_made FitsPart part Fits spelling make made made_of left (Short at) r = (
  r.0,
  record {
    value = make r.1.value;
    more = r.1.more;
    fits = (made r.1.value r.1.fits).0;
    lacks = r.1.lacks;
    spelled = r.1.spelled ∙ sym ((made r.1.value r.1.fits).1);
  },
)
refuses_made FitsPart part Fits spelling make made made_of left (Bad at) r = (
  r.0,
  λ b more rest fit e.
      let (a, fits-a, is) = made_of b fit in
      r.1 a more rest fits-a (e ∙ ap (λ (text : List ℕ). text ++ rest) (ap spelling (sym is) ∙ (made a fits-a).1)),
)
refuses_made FitsPart part Fits spelling make made made_of left Mem r = r

field_map : {A B : Type 0} (FitsPart : A → Type 0) (part : A → List ℕ) (part_at : Left → Read A)
    (Fits : B → Type 0) (spelling : B → List ℕ) (make : A → B)
    → IsField FitsPart part part_at
    → ((a : A) → FitsPart a → Fits (make a) × (spelling (make a) ≡ part a))
    → ((b : B) → Fits b → (a : A) × FitsPart a × (make a ≡ b))
    → IsField Fits spelling (λ left. part_at left >>= λ a. Ok (make a.0, a.1))
field_map {A} {B} FitsPart part part_at Fits spelling make first made made_of =
    let exact = exact_map FitsPart part part_at Fits spelling make first.exact made made_of in
    record {
      exact = exact;
      alone = exact_alone _ _ _ exact;
      refused = λ left f are e.
          elim (bind_err (part_at left) (λ (a : A × Left). Ok (make a.0, a.1)) f e) [
            | inl r ↦ refuses_made FitsPart part Fits spelling make made made_of left f (first.refused left f are r)
            | inr s ↦ absurd (not_both _ f s.2)
          ];
    }

-- ---- signed numbers

signed_fits : (n : ℕ) → n < 2 ^ 64 → FitsSigned w64 (cast_signed w64 n)
signed_fits n lt = sfits_to_z (Fits-of_lt lt)

pub i64_field : IsField (FitsSigned w64) i64 i64_at
unfolding i64_at i64
i64_field = field_map (λ n. n < 2 ^ 64) u64 u64_at (FitsSigned w64) i64 (cast_signed w64) u64_field
    (λ n lt. (signed_fits n lt, ap u64 (of_z-to_z w64 n lt)))
    (λ z fits. (cast_unsigned w64 z, Fits-lt-pow (Fits-of_z fits), to_z-of_z w64 z fits))

-- ---- bytes and their number

counted : (ℕ → List ℕ) → List ℕ → List ℕ
counted number bytes = number (length bytes) ++ bytes

counted_at : (Left → Read ℕ) → Left → Read (List ℕ)
counted_at number_at left = number_at left >>= λ count. bytes_at left.at count.0 count.1

counted_exact : (limit : ℕ) (number : ℕ → List ℕ) (number_at : Left → Read ℕ) → IsExact (λ n. n < limit) number number_at
    → IsExact (λ bytes. length bytes < limit) (counted number) (counted_at number_at)
unfolding counted counted_at
counted_exact limit number number_at first =
    exact_then (λ n. n < limit) number number_at (λ bytes. length bytes < limit) (λ bytes. number (length bytes) ++ bytes)
    (λ n bytes. length bytes ≡ n) (λ n bytes. bytes) (λ before n left. bytes_at before.at n left)
    first
    (λ before n lt. exact_as (λ bytes. length bytes ≡ n) (λ bytes. (length bytes < limit) × (length bytes ≡ n)) (λ bytes. bytes) (λ bytes. bytes) _ _
    (exact_bytes (λ left. before.at) n) (λ bytes e. (omega arith, e)) (λ bytes e. e.1) (λ bytes. refl) (λ left. refl))
    (λ bytes fit. (length bytes, fit, refl))
    (λ n bytes fit e. rw e refl)

-- what a number or the bytes after it lack
counted_cut : (limit : ℕ) (number : ℕ → List ℕ) (left : Left) → IsCutShort (λ n. n < limit) number left.bytes
    → IsCutShort (λ bytes. length bytes < limit) (counted number) left.bytes
unfolding counted
counted_cut limit number left cut =
    let zeros : List ℕ = replicate cut.value 0 in
    let long : length zeros ≡ cut.value = length-replicate cut.value 0 in
    record {
      value = zeros;
      more = cut.more ++ zeros;
      fits = rw long cut.fits;
      lacks = let some = cut.lacks in simp length-append (omega arith);
      spelled = sym (append_assoc left.bytes cut.more zeros) ∙ ap (λ (text : List ℕ). text ++ zeros) cut.spelled
          ∙ ap (λ (n : ℕ). number n ++ zeros) (sym long);
    }

bytes_cut : (limit : ℕ) (number : ℕ → List ℕ) (left after : Left) (n : ℕ) → n < limit → Begins (number n) left after → length after.bytes < n
    → IsCutShort (λ bytes. length bytes < limit) (counted number) left.bytes
unfolding counted padded
bytes_cut limit number left after n lt begins short =
    let long : length (padded after.bytes n) ≡ n = length-padded after.bytes n short in
    record {
      value = padded after.bytes n;
      more = replicate (n - length after.bytes) 0;
      fits = rw long lt;
      lacks = simp length-replicate (omega arith);
      spelled = ap (λ (text : List ℕ). text ++ replicate (n - length after.bytes) 0) begins.bytes
          ∙ append_assoc (number n) after.bytes (replicate (n - length after.bytes) 0)
          ∙ ap (λ (m : ℕ). number m ++ padded after.bytes n) (sym long);
    }

counted_refused : (limit : ℕ) (number : ℕ → List ℕ) (number_at : Left → Read ℕ) → IsField (λ n. n < limit) number number_at
    → ((left : Left) (f : ReadFault) → number_at left ≡ Err f → f ≡ Short left.at)
    → (left : Left) (f : ReadFault) → AreBytes left.bytes → counted_at number_at left ≡ Err f → Refuses (λ bytes. length bytes < limit) (counted number) left f
unfolding counted_at
counted_refused limit number number_at first short left f are e =
    elim (bind_err (number_at left) (λ (count : ℕ × Left). bytes_at left.at count.0 count.1) f e) [
      | inl r ↦
          let why : f ≡ Short left.at = short left f r in
          let refused : Refuses (λ n. n < limit) number left (Short left.at) = first.refused left (Short left.at) are (r ∙ ap (λ (g : ReadFault). Err g) why) in
          rw why (refl, counted_cut limit number left refused.1)
      | inr s ↦
          let b = bytes_refused left.at s.0.0 s.0.1 f s.2 in
          let found = first.exact.found left s.0.1 s.0.0 are s.1 in
          rw (b.0) (refl, bytes_cut limit number left s.0.1 s.0.0 found.0 found.1 b.1)
    ]

counted_field : (limit : ℕ) (number : ℕ → List ℕ) (number_at : Left → Read ℕ) → IsField (λ n. n < limit) number number_at
    → ((left : Left) (f : ReadFault) → number_at left ≡ Err f → f ≡ Short left.at)
    → IsField (λ bytes. length bytes < limit) (counted number) (counted_at number_at)
counted_field limit number number_at first short = record {
  exact = counted_exact limit number number_at first.exact;
  alone = exact_alone _ _ _ (counted_exact limit number number_at first.exact);
  refused = counted_refused limit number number_at first short;
}

u16_short : (left : Left) (f : ReadFault) → u16_at left ≡ Err f → f ≡ Short left.at
unfolding u16_at
u16_short left f e = (number_refused w16 left f e).0

u32_short : (left : Left) (f : ReadFault) → u32_at left ≡ Err f → f ≡ Short left.at
unfolding u32_at
u32_short left f e = (number_refused w32 left f e).0

pub bytes16_field : IsField (λ bytes. length bytes < 2 ^ 16) bytes16 bytes16_at
unfolding bytes16 bytes16_at counted counted_at
bytes16_field = counted_field (2 ^ 16) u16 u16_at u16_field u16_short

pub bytes32_field : IsField (λ bytes. length bytes < 2 ^ 32) bytes32 bytes32_at
unfolding bytes32 bytes32_at counted counted_at
bytes32_field = counted_field (2 ^ 32) u32 u32_at u32_field u32_short

-- ---- flags

true_false : true ≡ false → ⊥
true_false e = cc

test_err : {A : Type 0} (b : Bool) (d f : ReadFault) (x : A) → cond b (Ok x) (Err d) ≡ Err f → (b ≡ false) × (d ≡ f)
test_err true d f x e = absurd cc
test_err false d f x e = (refl, cc)

-- why a field that must pass a test isn't read
checked_refused : {A : Type 0} (test : A → Bool) (reading : Left → Read A) (left : Left) (f : ReadFault) → checked test reading left ≡ Err f
    → (reading left ≡ Err f) ⊎ ((x : A × Left) × (reading left ≡ Ok x) × (test x.0 ≡ false) × (Bad left.at ≡ f))
unfolding checked
checked_refused {A} test reading left f e =
    elim (bind_err (reading left) (λ (x : A × Left). cond (test x.0) (Ok x) (Err (Bad left.at))) f e) [
      | inl r ↦ inl r
      | inr s ↦ let t = test_err (test s.0.0) (Bad left.at) f s.0 s.2 in inr (s.0, s.1, t.0, t.1)
    ]

byte_of : Bool → ℕ
byte_of false = 0
byte_of true = 1

abbrev below_2 : ℕ → Bool
below_2 b = ltb b 2

flag_is : (x : Bool) → flag x ≡ u8 (byte_of x)
unfolding byte_of
flag_is false = refl
flag_is true = refl

made_flag : (b : ℕ) → (b < 2 ^ 8) × (below_2 b ≡ true) → Unit {0} × (flag (eqb b 1) ≡ u8 b)
made_flag zero h = (tt, refl)
made_flag (suc zero) h = (tt, refl)
made_flag (suc (suc b)) h = absurd (omega (arith, ltb-true _ _ h.1))

flag_made : (x : Bool) → (b : ℕ) × ((b < 2 ^ 8) × (below_2 b ≡ true)) × (eqb b 1 ≡ x)
flag_made false = (0, (omega arith, refl), refl)
flag_made true = (1, (omega arith, refl), refl)

flag_exact : IsExact (λ x. Unit {0}) flag flag_at
unfolding flag_at
flag_exact = exact_map (λ b. (b < 2 ^ 8) × (below_2 b ≡ true)) u8 (checked below_2 u8_at) (λ x. Unit {0}) flag (λ b. eqb b 1)
    (exact_checked (λ b. b < 2 ^ 8) u8 u8_at below_2 u8_field.exact)
    made_flag
    (λ x fit. flag_made x)

none_of : (xs : List ℕ) → length xs < 1 → xs ≡ []
none_of [] short = refl
none_of (x ∷ xs) short = absurd (omega arith)

flag_short : (left : Left) → IsCutShort (λ n. n < 2 ^ 8) u8 left.bytes → IsCutShort (λ x. Unit {0}) flag left.bytes
unfolding u8
flag_short left cut =
    let long : length left.bytes + length cut.more ≡ 1 = sym (length-append left.bytes cut.more) ∙ ap length cut.spelled in
    let some : 0 < length cut.more = cut.lacks in
    let none : left.bytes ≡ [] = none_of left.bytes (omega arith) in
    record { value = false; more = 0 ∷ []; fits = tt; lacks = omega arith; spelled = rw none refl }

byte_below : (x : Bool) → byte_of x < 2
unfolding byte_of
byte_below false = omega arith
byte_below true = omega arith

flag_bad : (left after : Left) (b : ℕ) → (b < 2 ^ 8) × Begins (u8 b) left after → below_2 b ≡ false → HasNone (λ x. Unit {0}) flag left.bytes
flag_bad left after b found large x more rest fit e =
    let two : 2 ≤ b = ltb-false _ _ large in
    let same = u8_field.alone b (byte_of x) (after.bytes ++ more) rest found.0 (omega (arith, byte_below x))
    (sym (append_assoc (u8 b) after.bytes more) ∙ ap (λ (text : List ℕ). text ++ more) (sym (found.1.bytes)) ∙ e ∙ ap (λ (text : List ℕ). text ++ rest) (flag_is x)) in
    omega (arith, byte_below x, same.0)

flag_checked : (left : Left) (f : ReadFault) → flag_at left ≡ Err f → checked below_2 u8_at left ≡ Err f
unfolding flag_at
flag_checked left f e =
    elim (bind_err (checked below_2 u8_at left) (λ (b : ℕ × Left). Ok (eqb b.0 1, b.1)) f e) [
      | inl r ↦ r
      | inr s ↦ absurd (not_both _ f s.2)
    ]

u8_short : (left : Left) (f : ReadFault) → u8_at left ≡ Err f → f ≡ Short left.at
unfolding u8_at
u8_short left f e = (number_refused w8 left f e).0

flag_refused : (left : Left) (f : ReadFault) → AreBytes left.bytes
    → (u8_at left ≡ Err f) ⊎ ((x : ℕ × Left) × (u8_at left ≡ Ok x) × (below_2 x.0 ≡ false) × (Bad left.at ≡ f))
    → Refuses (λ x. Unit {0}) flag left f
flag_refused left f are (inl r) =
    let why : f ≡ Short left.at = u8_short left f r in
    let refused : Refuses (λ n. n < 2 ^ 8) u8 left (Short left.at) = u8_field.refused left (Short left.at) are (r ∙ ap (λ (g : ReadFault). Err g) why) in
    rw why (refl, flag_short left refused.1)
flag_refused left f are (inr s) =
    rw (← s.3) (refl, flag_bad left s.0.1 s.0.0 (u8_field.exact.found left s.0.1 s.0.0 are s.1) s.2)

pub flag_field : IsField (λ x. Unit {0}) flag flag_at
flag_field = record {
  exact = flag_exact;
  alone = exact_alone _ _ _ flag_exact;
  refused = λ left f are e. flag_refused left f are (checked_refused below_2 u8_at left f (flag_checked left f e));
}

-- ---- what may be there

-- what stands after the flag
rest_of : {A : Type 0} → (A → List ℕ) → Option A → List ℕ
rest_of spelling None = []
rest_of spelling (Some x) = spelling x

maybe_is : {A : Type 0} (spelling : A → List ℕ) (o : Option A) → maybe spelling o ≡ flag (is_some o) ++ rest_of spelling o
unfolding u8 rest_of
maybe_is spelling None = refl
maybe_is spelling (Some x) = refl

none_alone : {A : Type 0} (Fits : A → Type 0) (spelling : A → List ℕ) (o : Option A) → IfSome o Fits × (is_some o ≡ false) → (o ≡ None) × (rest_of spelling o ≡ [])
unfolding rest_of
none_alone Fits spelling None fit = (refl, refl)
none_alone Fits spelling (Some x) fit = absurd (true_false fit.1)

some_of : {A : Type 0} (Fits : A → Type 0) (o : Option A) → IfSome o Fits × (is_some o ≡ true) → (x : A) × Fits x × (Some x ≡ o)
some_of Fits None fit = absurd (true_false (sym fit.1))
some_of Fits (Some x) fit = (x, fit.0, refl)

there_exact : {A : Type 0} (Fits : A → Type 0) (spelling : A → List ℕ) (reading : Left → Read A) → IsExact Fits spelling reading
    → (a : Bool) → IsExact (λ o. IfSome o Fits × (is_some o ≡ a)) (rest_of spelling) (there_at reading a)
unfolding rest_of
there_exact {A} Fits spelling reading exact false =
    exact_done (λ o. IfSome o Fits × (is_some o ≡ false)) (rest_of spelling) None (tt, refl) (λ o fit. none_alone Fits spelling o fit)
there_exact {A} Fits spelling reading exact true =
    exact_map Fits spelling reading (λ o. IfSome o Fits × (is_some o ≡ true)) (rest_of spelling) (λ x. Some x) exact
    (λ x fits. ((fits, refl), refl)) (λ o fit. some_of Fits o fit)

pub maybe_exact : {A : Type 0} (Fits : A → Type 0) (spelling : A → List ℕ) (reading : Left → Read A) → IsExact Fits spelling reading
    → IsExact (λ o. IfSome o Fits) (maybe spelling) (maybe_at reading)
unfolding maybe_at
maybe_exact {A} Fits spelling reading exact =
    exact_then (λ x. Unit {0}) flag flag_at (λ o. IfSome o Fits) (maybe spelling)
    (λ a o. is_some o ≡ a) (λ a o. rest_of spelling o) (λ before a left. there_at reading a left)
    flag_exact
    (λ before a fit. there_exact Fits spelling reading exact a)
    (λ o fit. (is_some o, tt, refl))
    (λ a o fit e. rw (← e) (maybe_is spelling o))

pub maybe_i64_exact : IsExact (λ o. IfSome o (FitsSigned w64)) (maybe i64) (maybe_at i64_at)
maybe_i64_exact = maybe_exact (FitsSigned w64) i64 i64_at i64_field.exact
