-- Byte strings that are padded to one length compare as numbers, and where these tie by their lengths.
use Rattle.std.proofs.Common.{◌≡◌, ℕ, zero, suc, ◌+◌, ◌-◌, ◌*◌, ◌<◌, ◌≤◌, ◌&&◌, List, [], ◌∷◌, ◌++◌, length, get_or, take, replicate, refl, sym, ap, ◌∙◌, subst, arith, length-append, length-take}
use Rattle.std.proofs.lemmas.List.{length-replicate}
use Rattle.std.specs.Prelude.{nat_eq}
use Rattle.std.specs.Int.{w128, from_be_bytes}
use Rattle.std.specs.declared.cmp.Ordering.{Ordering}
use Rattle.std.specs.declared.cmp.Ordering.TheVariants.{Less, Equal, Greater}
use Rattle.std.specs.Ordering.{nat_cmp, ordering_then, is_eq, MatchOrdering}
use Rattle.std.specs.Cmp.{ranks, unsigned_ties, nat_cmp_is, both_tied}
use Rattle.std.specs.Cmp.Lexicographic.{pointwise, texts_ties}
use Rattle.std.proofs.lemmas.Cmp.{tied_itself, nat_cmp_total, nat_list_cmp_total}
use Rattle.std.specs.Slice.Scan.{big_endian}
use Rattle.cas_types.specs.Values.{bytes_cmp}
use Rattle.cas_types.specs.Inner.Padded.{padded}

-- each is a byte
abbrev pub AllBytes : List ℕ → Type 0
AllBytes xs = (k : ℕ) → get_or xs k 0 < 256

-- ---- as numbers
rises : (a b : ℕ) (us vs : List ℕ) → length us ≡ length vs → AllBytes us → a < b → big_endian a us < big_endian b vs
rises a b [] [] e h l = l
rises a b [] (v ∷ vs) e h l = absurd (omega arith)
rises a b (u ∷ us) [] e h l = absurd (omega arith)
rises a b (u ∷ us) (v ∷ vs) e h l =
    let small : u < 256 = h 0 in
    rises (a * 256 + u) (b * 256 + v) us vs (omega arith) (λ k. h (suc k)) (omega arith)

below : (x y : ℕ) → x < y → nat_cmp x y ≡ Less
below x y l = sym (nat_cmp_is x y Less l)

above : (x y : ℕ) → y < x → nat_cmp x y ≡ Greater
above x y l = sym (nat_cmp_is x y Greater l)

pub numbers_order : (a : ℕ) (us vs : List ℕ) → length us ≡ length vs → AllBytes us → AllBytes vs → nat_cmp (big_endian a us) (big_endian a vs) ≡ bytes_cmp us vs
numbers_order a [] [] e g h = tied_itself nat_cmp_total a
numbers_order a [] (v ∷ vs) e g h = absurd (omega arith)
numbers_order a (u ∷ us) [] e g h = absurd (omega arith)
numbers_order a (u ∷ us) (v ∷ vs) e g h =
    by (nat_cmp u v) refl (ranks u v) (numbers_order (a * 256 + u) us vs (omega arith) (λ k. g (suc k)) (λ k. h (suc k)))
  where
    by : (r : Ordering) → nat_cmp u v ≡ r → MatchOrdering r (u < v) (u ≡ v) (v < u)
        → nat_cmp (big_endian (a * 256 + u) us) (big_endian (a * 256 + u) vs) ≡ bytes_cmp us vs
        → nat_cmp (big_endian (a * 256 + u) us) (big_endian (a * 256 + v) vs) ≡ ordering_then (nat_cmp u v) (bytes_cmp us vs)
    by Less q l rest =
        let under : u < v = l in
        below _ _ (rises (a * 256 + u) (a * 256 + v) us vs (omega arith) (λ k. g (suc k)) (omega arith)) ∙ rw q refl
    by Greater q l rest =
        let over : v < u = l in
        above _ _ (rises (a * 256 + v) (a * 256 + u) vs us (omega arith) (λ k. h (suc k)) (omega arith)) ∙ rw q refl
    by Equal q l rest =
        let level : u ≡ v = l in
        ap (λ z. nat_cmp (big_endian (a * 256 + u) us) (big_endian (a * 256 + z) vs)) (sym level) ∙ rest ∙ rw q refl

pub sixteen : (bs : List ℕ) → length bs ≡ 16 → from_be_bytes w128 bs ≡ big_endian 0 bs
sixteen (a ∷ b ∷ c ∷ d ∷ e ∷ f ∷ g ∷ h ∷ i ∷ j ∷ k ∷ l ∷ m ∷ n ∷ o ∷ p ∷ []) is = omega arith
sixteen _ is = absurd (omega arith)

-- ---- behind the ends
zeros_first : (k : ℕ) (zs : List ℕ) → length zs ≡ k → ordering_then (bytes_cmp (replicate k 0) zs) Less ≡ Less
zeros_first zero [] e = refl
zeros_first zero (z ∷ zs) e = absurd (omega arith)
zeros_first (suc k) [] e = absurd (omega arith)
zeros_first (suc k) (zero ∷ zs) e = zeros_first k zs (omega arith)
zeros_first (suc k) (suc z ∷ zs) e = rw (below 0 (suc z) (omega arith)) refl

zeros_last : (k : ℕ) (zs : List ℕ) → length zs ≡ k → ordering_then (bytes_cmp zs (replicate k 0)) Greater ≡ Greater
zeros_last zero [] e = refl
zeros_last zero (z ∷ zs) e = absurd (omega arith)
zeros_last (suc k) [] e = absurd (omega arith)
zeros_last (suc k) (zero ∷ zs) e = zeros_last k zs (omega arith)
zeros_last (suc k) (suc z ∷ zs) e = rw (above (suc z) 0 (omega arith)) refl

in_turn : (r s t : Ordering) → ordering_then (ordering_then r s) t ≡ ordering_then r (ordering_then s t)
in_turn Less s t = refl
in_turn Equal s t = refl
in_turn Greater s t = refl

one_longer : (a b : ℕ) → nat_cmp (suc a) (suc b) ≡ nat_cmp a b
one_longer a b = by (nat_cmp a b) (ranks a b)
  where
    by : (r : Ordering) → MatchOrdering r (a < b) (a ≡ b) (b < a) → nat_cmp (suc a) (suc b) ≡ r
    by Less l = let under : a < b = l in below (suc a) (suc b) (omega arith)
    by Greater l = let over : b < a = l in above (suc a) (suc b) (omega arith)
    by Equal l = let level : a ≡ b = l in ap (λ z. nat_cmp (suc a) (suc z)) (sym level) ∙ tied_itself nat_cmp_total (suc a)

lengths_decide : (xs ys : List ℕ) (k m : ℕ) → length xs + k ≡ length ys + m
    → ordering_then (bytes_cmp (xs ++ replicate k 0) (ys ++ replicate m 0)) (nat_cmp (length xs) (length ys)) ≡ bytes_cmp xs ys
lengths_decide [] [] k m e =
    let same : k ≡ m = omega arith in
    subst (λ n. ordering_then (bytes_cmp (replicate k 0) (replicate n 0)) Equal ≡ Equal) same (ap (λ r. ordering_then r Equal) (tied_itself nat_list_cmp_total (replicate k 0)))
lengths_decide [] (y ∷ ys) k m e =
    ap (ordering_then _) (below 0 (suc (length ys)) (omega arith))
    ∙ zeros_first k (y ∷ ys ++ replicate m 0) (omega (arith, length-append ys (replicate m 0), length-replicate {A = ℕ} m 0))
lengths_decide (x ∷ xs) [] k m e =
    ap (ordering_then _) (above (suc (length xs)) 0 (omega arith))
    ∙ zeros_last m (x ∷ xs ++ replicate k 0) (omega (arith, length-append xs (replicate k 0), length-replicate {A = ℕ} k 0))
lengths_decide (x ∷ xs) (y ∷ ys) k m e =
    ap (ordering_then _) (one_longer (length xs) (length ys))
    ∙ in_turn (nat_cmp x y) (bytes_cmp (xs ++ replicate k 0) (ys ++ replicate m 0)) _
    ∙ ap (ordering_then (nat_cmp x y)) (lengths_decide xs ys k m (omega arith))

-- ---- sixteen bytes
module _ (us vs : List ℕ) (lu : length us ≡ 16) (lv : length vs ≡ 16) where
  pub places_order : AllBytes us → AllBytes vs → nat_cmp (from_be_bytes w128 us) (from_be_bytes w128 vs) ≡ bytes_cmp us vs
  places_order g h = (λ i. nat_cmp (sixteen us lu i) (sixteen vs lv i)) ∙ numbers_order 0 us vs (lu ∙ sym lv) g h

  pub places_same : AllBytes us → AllBytes vs → nat_eq (from_be_bytes w128 us) (from_be_bytes w128 vs) ≡ pointwise nat_eq us vs
  places_same g h = unsigned_ties (from_be_bytes w128 us) (from_be_bytes w128 vs) ∙ ap is_eq (places_order g h) ∙ sym (texts_ties us vs)

  module _ (xs ys : List ℕ) (n m : ℕ) (hu : us ≡ padded 16 (take n us)) (hv : vs ≡ padded 16 (take m vs)) (hx : take n us ≡ xs) (hy : take m vs ≡ ys) where
    pub shorts_order : n ≤ 16 → m ≤ 16 → ordering_then (bytes_cmp us vs) (nat_cmp n m) ≡ bytes_cmp xs ys
    shorts_order p q =
        let ln : n ≡ length (take n us) = omega (arith, length-take n us) in
        let lm : m ≡ length (take m vs) = omega (arith, length-take m vs) in
        (λ i. ordering_then (bytes_cmp (hu i) (hv i)) (nat_cmp (ln i) (lm i)))
        ∙ lengths_decide (take n us) (take m vs) (16 - length (take n us)) (16 - length (take m vs)) (omega arith)
        ∙ (λ i. bytes_cmp (hx i) (hy i))

    pub shorts_same : n ≤ 16 → m ≤ 16 → (pointwise nat_eq us vs && nat_eq n m) ≡ pointwise nat_eq xs ys
    shorts_same p q = both_tied _ _ (bytes_cmp us vs) (nat_cmp n m) (texts_ties us vs) (unsigned_ties n m) ∙ ap is_eq (shorts_order p q) ∙ sym (texts_ties xs ys)
