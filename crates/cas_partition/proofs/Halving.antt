-- Entries of a row in halves.
use Rattle.std.proofs.Common.{◌≡◌, ℕ, zero, suc, ◌-◌, ◌/◌, ◌<◌, ◌≤◌, Bool, true, false, cond, nat_lt, List, [], ◌∷◌, map, take, drop, length, refl, sym, ap, ◌∙◌, subst, arith}
use borrow.Author.Tests.{lt-ltb, ltb-true}
use Rattle.cas_streams.specs.declared.fragment.Fragment.{Fragment}
use Rattle.cas_partition.specs.Inner.Pieces.{joined_pieces, joined_both, joined_in}

module _ {X : Type 0} (p : X → Fragment) where
  mapped_length : (es : List X) → length (map p es) ≡ length es
  mapped_length [] = refl
  mapped_length (e ∷ es) = ap suc (mapped_length es)

  mapped_front : (k : ℕ) (es : List X) → take k (map p es) ≡ map p (take k es)
  mapped_front zero es = refl
  mapped_front (suc k) [] = refl
  mapped_front (suc k) (e ∷ es) = ap (λ l. p e ∷ l) (mapped_front k es)

  mapped_back : (k : ℕ) (es : List X) → drop k (map p es) ≡ map p (drop k es)
  mapped_back zero es = refl
  mapped_back (suc k) [] = refl
  mapped_back (suc k) (e ∷ es) = mapped_back k es

pub at_depth_none : (depth : ℕ) (fs : List Fragment) → depth ≡ 0 → joined_pieces fs ≡ joined_in depth fs
unfolding joined_in
at_depth_none depth fs e = sym (ap (λ n. joined_in n fs) e)

is_below : (m n : ℕ) → m < n → nat_lt m n ≡ true
is_below m n h = lt-ltb m n h

isnt_below : (m n : ℕ) → n ≤ m → nat_lt m n ≡ false
isnt_below m n h = go (nat_lt m n) refl
  where
    go : (b : Bool) → nat_lt m n ≡ b → nat_lt m n ≡ false
    go true e = absurd (let no : m < n = ltb-true m n e in omega (arith, no))
    go false e = e

few_whole : (depth : ℕ) (fs : List Fragment) → length fs < 16 → joined_pieces fs ≡ joined_in depth fs
unfolding joined_in
few_whole zero fs few = refl
few_whole (suc n) fs few =
    sym (ap (λ b. cond b (joined_pieces fs) (joined_both (joined_in n (take (length fs / 2) fs)) (joined_in n (drop (length fs / 2) fs)))) (is_below (length fs) 16 few))

pub few_mapped : {X : Type 0} (p : X → Fragment) (depth : ℕ) (es : List X) → length es < 16 → joined_pieces (map p es) ≡ joined_in depth (map p es)
few_mapped p depth es few = few_whole depth (map p es) (subst (λ n. n < 16) (sym (mapped_length p es)) few)

many_halved : (depth : ℕ) (fs : List Fragment) → (depth ≡ 0 → ⊥) → 16 ≤ length fs
    → joined_both (joined_in (depth - 1) (take (length fs / 2) fs)) (joined_in (depth - 1) (drop (length fs / 2) fs)) ≡ joined_in depth fs
unfolding joined_in
many_halved zero fs some many = absurd (some refl)
many_halved (suc n) fs some many =
    let less : suc n - 1 ≡ n = omega arith in
    ap (λ k. joined_both (joined_in k (take (length fs / 2) fs)) (joined_in k (drop (length fs / 2) fs))) less
    ∙ sym (ap (λ b. cond b (joined_pieces fs) (joined_both (joined_in n (take (length fs / 2) fs)) (joined_in n (drop (length fs / 2) fs)))) (isnt_below (length fs) 16 many))

pub many_mapped : {X : Type 0} (p : X → Fragment) (depth : ℕ) (es front back : List X) → (depth ≡ 0 → ⊥) → 16 ≤ length es → front ≡ take (length es / 2) es → back ≡ drop (length es / 2) es
    → joined_both (joined_in (depth - 1) (map p front)) (joined_in (depth - 1) (map p back)) ≡ joined_in depth (map p es)
many_mapped p depth es front back some many f b =
    let k : length (map p es) / 2 ≡ length es / 2 = ap (λ n. n / 2) (mapped_length p es) in
    (λ i. joined_both (joined_in (depth - 1) ((ap (map p) f ∙ sym (mapped_front p (length es / 2) es) ∙ ap (λ n. take n (map p es)) (sym k)) i))
    (joined_in (depth - 1) ((ap (map p) b ∙ sym (mapped_back p (length es / 2) es) ∙ ap (λ n. drop n (map p es)) (sym k)) i)))
    ∙ many_halved depth (map p es) some (subst (λ n. 16 ≤ n) (sym (mapped_length p es)) many)
