-- One turn of the search for an end.
use Rattle.std.proofs.Common.{◌≡◌, ◌≢◌, ℕ, suc, ◌+◌, ◌<◌, true, false, cond, List, [], ◌∷◌, ◌++◌, length, get_or, take, drop, Bool, Option, Some, None, refl, sym, ap, ◌∙◌, subst, not, arith, eqb, append_assoc, append-nil}
use Rattle.std.specs.Option.{option_map}
use Rattle.std.specs.List.{position_or_len}
use Rattle.std.proofs.lemmas.List.{drop_more, drop_all}
use Rattle.std.proofs.lemmas.List.Sums.{passes_at_first}
use Rattle.std.proofs.lemmas.Bool.Decides.{nat_tests}
use Rattle.cql_lex.specs.Quotes.{closing_size, closed}
use Rattle.std.proofs.lemmas.Bool.{false≢true, eqb-true}
use Rattle.cql_lex.specs.Characters.{begins_pair}
use Rattle.cql_lex.specs.Gaps.{close_size}

-- a size counted from a place, and from k further
further : (i k j : ℕ) (o : Option ℕ) → i + k ≡ j → option_map (λ n. i + n) (option_map (λ n. k + n) o) ≡ option_map (λ n. j + n) o
further i k j None e = refl
further i k j (Some n) e = let same : i + (k + n) ≡ j + n = omega arith in ap (λ m. Some m) same

pub unequal : (a b : ℕ) → a ≢ b → eqb a b ≡ false
unequal a b h = grind (arith, nat_tests)

pub equal : (a b : ℕ) → a ≡ b → eqb a b ≡ true
equal a b h = grind (arith, nat_tests)

closing_other : (q c : ℕ) (cs : List ℕ) → eqb c q ≡ false → closing_size q (c ∷ cs) ≡ option_map (λ n. 1 + n) (closing_size q cs)
closing_other q c [] e = ap (λ b. cond b (Some 1) None) e
closing_other q c (d ∷ cs) e = ap (λ b. cond b (cond (eqb d q) (option_map (λ n. 2 + n) (closing_size q cs)) (Some 1)) (option_map (λ n. 1 + n) (closing_size q (d ∷ cs)))) e

closing_double : (q c d : ℕ) (cs : List ℕ) → eqb c q ≡ true → eqb d q ≡ true → closing_size q (c ∷ d ∷ cs) ≡ option_map (λ n. 2 + n) (closing_size q cs)
closing_double q c d cs e f =
    ap (λ b. cond b (cond (eqb d q) (option_map (λ n. 2 + n) (closing_size q cs)) (Some 1)) (option_map (λ n. 1 + n) (closing_size q (d ∷ cs)))) e
    ∙ ap (λ b. cond b (option_map (λ n. 2 + n) (closing_size q cs)) (Some 1)) f

closing_end : (q c : ℕ) (cs : List ℕ) → eqb c q ≡ true → eqb (get_or cs 0 (suc q)) q ≡ false → closing_size q (c ∷ cs) ≡ Some 1
closing_end q c [] e f = ap (λ b. cond b (Some 1) None) e
closing_end q c (d ∷ cs) e f =
    ap (λ b. cond b (cond (eqb d q) (option_map (λ n. 2 + n) (closing_size q cs)) (Some 1)) (option_map (λ n. 1 + n) (closing_size q (d ∷ cs)))) e
    ∙ ap (λ b. cond b (option_map (λ n. 2 + n) (closing_size q cs)) (Some 1)) f

-- two more of what is left
two_more : (xs : List ℕ) (i : ℕ) → i + 1 < length xs → drop i xs ≡ get_or xs i 0 ∷ get_or xs (i + 1) 0 ∷ drop (i + 2) xs
two_more xs i h =
    let next : i + 1 + 1 ≡ i + 2 = omega arith in
    drop_more xs i 0 (omega arith) ∙ ap (λ ys. get_or xs i 0 ∷ ys) (drop_more xs (i + 1) 0 h ∙ ap (λ k. get_or xs (i + 1) 0 ∷ drop k xs) next)

pub closing_turn : (q : ℕ) (xs : List ℕ) (i : ℕ) (total : Option ℕ) → i < length xs → get_or xs i 0 ≢ q → option_map (λ n. i + n) (closing_size q (drop i xs)) ≡ total → option_map (λ n. (i + 1) + n) (closing_size q (drop (i + 1) xs)) ≡ total
closing_turn q xs i total h e t =
    sym (further i 1 (i + 1) (closing_size q (drop (i + 1) xs)) refl)
    ∙ ap (option_map (λ n. i + n)) (sym (ap (closing_size q) (drop_more xs i 0 h) ∙ closing_other q (get_or xs i 0) (drop (i + 1) xs) (unequal _ _ e)))
    ∙ t

pub closing_twice : (q : ℕ) (xs : List ℕ) (i : ℕ) (total : Option ℕ) → i + 1 < length xs → get_or xs i 0 ≡ q → get_or xs (i + 1) 0 ≡ q → option_map (λ n. i + n) (closing_size q (drop i xs)) ≡ total → option_map (λ n. (i + 2) + n) (closing_size q (drop (i + 2) xs)) ≡ total
closing_twice q xs i total h e f t =
    sym (further i 2 (i + 2) (closing_size q (drop (i + 2) xs)) refl)
    ∙ ap (option_map (λ n. i + n)) (sym (ap (closing_size q) (two_more xs i h) ∙ closing_double q (get_or xs i 0) (get_or xs (i + 1) 0) (drop (i + 2) xs) (equal _ _ e) (equal _ _ f)))
    ∙ t

-- what is read after a front
after : (front : List ℕ) (c : ℕ) (o : Option (List ℕ)) → option_map (λ rest. front ++ rest) (option_map (λ rest. c ∷ rest) o) ≡ option_map (λ rest. (front ++ c ∷ []) ++ rest) o
after front c None = refl
after front c (Some rest) = let same : front ++ c ∷ rest ≡ (front ++ c ∷ []) ++ rest = sym (append_assoc front (c ∷ []) rest) in ap (λ t. Some t) same

pub closed_other : (q c : ℕ) (cs : List ℕ) → eqb c q ≡ false → closed q (c ∷ cs) ≡ option_map (λ rest. c ∷ rest) (closed q cs)
closed_other q c [] e = ap (λ b. cond b (Some []) None) e
closed_other q c (d ∷ cs) e = ap (λ b. cond b (cond (eqb d q) (option_map (λ rest. c ∷ rest) (closed q cs)) None) (option_map (λ rest. c ∷ rest) (closed q (d ∷ cs)))) e

pub closed_second : (q c d : ℕ) (cs : List ℕ) → eqb c q ≡ true → closed q (c ∷ d ∷ cs) ≡ cond (eqb d q) (option_map (λ rest. c ∷ rest) (closed q cs)) None
closed_second q c d cs e = ap (λ b. cond b (cond (eqb d q) (option_map (λ rest. c ∷ rest) (closed q cs)) None) (option_map (λ rest. c ∷ rest) (closed q (d ∷ cs)))) e

unmapped : (o : Option (List ℕ)) → option_map (λ rest. [] ++ rest) o ≡ o
unmapped None = refl
unmapped (Some x) = refl

longer : (c : ℕ) (front : List ℕ) (o : Option (List ℕ)) → option_map (λ rest. (c ∷ front) ++ rest) o ≡ option_map (λ rest. c ∷ rest) (option_map (λ rest. front ++ rest) o)
longer c front None = refl
longer c front (Some x) = refl

abbrev Kept : ℕ → ℕ → List ℕ → Type 0
Kept q n xs = option_map (λ rest. take n xs ++ rest) (closed q (drop n xs)) ≡ closed q xs

kept_by : (q c : ℕ) (cs : List ℕ) (n : ℕ) (b : Bool) → eqb c q ≡ b → Kept q n cs → Kept q (cond b 0 (1 + n)) (c ∷ cs)
kept_by q c cs n true e h = unmapped (closed q (c ∷ cs))
kept_by q c cs n false e h =
    let one : 1 + n ≡ suc n = omega arith in
    ap (λ k. option_map (λ rest. take k (c ∷ cs) ++ rest) (closed q (drop k (c ∷ cs)))) one
    ∙ longer c (take n cs) (closed q (drop n cs))
    ∙ ap (option_map (λ rest. c ∷ rest)) h
    ∙ sym (closed_other q c cs e)

plain_step : (q c : ℕ) (cs : List ℕ) (b : Bool) → eqb c q ≡ b → position_or_len (λ d. eqb d q) (c ∷ cs) ≡ cond b 0 (1 + position_or_len (λ d. eqb d q) cs)
plain_step q c cs true e = ap (λ b. cond (not b) (1 + position_or_len (λ d. eqb d q) cs) 0) e
plain_step q c cs false e = ap (λ b. cond (not b) (1 + position_or_len (λ d. eqb d q) cs) 0) e

-- what stands before the first quote is taken as it is
plain_kept : (q : ℕ) (xs : List ℕ) → Kept q (position_or_len (λ d. eqb d q) xs) xs
plain_kept q [] = refl
plain_kept q (c ∷ cs) =
    subst (λ n. Kept q n (c ∷ cs)) (sym (plain_step q c cs (eqb c q) refl)) (kept_by q c cs (position_or_len (λ d. eqb d q) cs) (eqb c q) refl (plain_kept q cs))

pub plain_begun : (q : ℕ) (xs : List ℕ) (n : ℕ) (front : List ℕ) → front ≡ take n xs → n ≡ position_or_len (λ d. eqb d q) xs → option_map (λ rest. front ++ rest) (closed q (drop n xs)) ≡ closed q xs
plain_begun q xs n front e s = ap (λ f. option_map (λ rest. f ++ rest) (closed q (drop n xs))) e ∙ subst (λ k. Kept q k xs) (sym s) (plain_kept q xs)

pub closed_turn : (q : ℕ) (xs : List ℕ) (i : ℕ) (front next : List ℕ) (total : Option (List ℕ)) → i < length xs → get_or xs i 0 ≢ q → next ≡ front ++ get_or xs i 0 ∷ [] → option_map (λ rest. front ++ rest) (closed q (drop i xs)) ≡ total → option_map (λ rest. next ++ rest) (closed q (drop (i + 1) xs)) ≡ total
closed_turn q xs i front next total h e n t =
    ap (λ f. option_map (λ rest. f ++ rest) (closed q (drop (i + 1) xs))) n
    ∙ sym (after front (get_or xs i 0) (closed q (drop (i + 1) xs)))
    ∙ ap (option_map (λ rest. front ++ rest)) (sym (ap (closed q) (drop_more xs i 0 h) ∙ closed_other q (get_or xs i 0) (drop (i + 1) xs) (unequal _ _ e)))
    ∙ t

pub closed_twice : (q : ℕ) (xs : List ℕ) (i : ℕ) (front next : List ℕ) (total : Option (List ℕ)) → i + 1 < length xs → get_or xs i 0 ≡ q → get_or xs (i + 1) 0 ≡ q → next ≡ front ++ q ∷ [] → option_map (λ rest. front ++ rest) (closed q (drop i xs)) ≡ total → option_map (λ rest. next ++ rest) (closed q (drop (i + 2) xs)) ≡ total
closed_twice q xs i front next total h e f n t =
    let spelled : next ≡ front ++ get_or xs i 0 ∷ [] = n ∙ ap (λ c. front ++ c ∷ []) (sym e) in
    ap (λ f. option_map (λ rest. f ++ rest) (closed q (drop (i + 2) xs))) spelled
    ∙ sym (after front (get_or xs i 0) (closed q (drop (i + 2) xs)))
    ∙ ap (option_map (λ rest. front ++ rest)) (sym (ap (closed q) (two_more xs i h) ∙ closed_second q (get_or xs i 0) (get_or xs (i + 1) 0) (drop (i + 2) xs) (equal _ _ e) ∙ ap (λ b. cond b (option_map (λ rest. get_or xs i 0 ∷ rest) (closed q (drop (i + 2) xs))) None) (equal _ _ f)))
    ∙ t

-- the closing quote is the end
pub closed_last : (q : ℕ) (xs : List ℕ) (i : ℕ) (front : List ℕ) (total : Option (List ℕ)) → i + 1 ≡ length xs → get_or xs i 0 ≡ q → option_map (λ rest. front ++ rest) (closed q (drop i xs)) ≡ total → Some front ≡ total
closed_last q xs i front total h e t =
    let last : drop i xs ≡ get_or xs i 0 ∷ [] = drop_more xs i 0 (omega arith) ∙ ap (λ ys. get_or xs i 0 ∷ ys) (drop_all (i + 1) xs (omega arith)) in
    ap (λ f. Some f) (sym (append-nil front))
    ∙ ap (option_map (λ rest. front ++ rest)) (sym (ap (closed q) last ∙ ap (λ b. cond b (Some []) None) (equal _ _ e)))
    ∙ t

-- a text whose first quote is its end is what stands before it
pub plain_closed : (q : ℕ) (xs : List ℕ) (n : ℕ) → n ≡ position_or_len (λ d. eqb d q) xs → n + 1 ≡ length xs → closed q xs ≡ Some (take n xs)
plain_closed q xs n e h =
    let here : get_or xs n 0 ≡ q = eqb-true _ _ (ap (λ k. eqb (get_or xs k 0) q) e ∙ passes_at_first (λ d. eqb d q) xs 0 (omega arith)) in
    sym (closed_last q xs n (take n xs) (closed q xs) h here (plain_begun q xs n (take n xs) refl e))

-- the closing quote is not the end
pub closed_early : (q : ℕ) (xs : List ℕ) (i : ℕ) (front : List ℕ) (total : Option (List ℕ)) → i + 1 < length xs → get_or xs i 0 ≡ q → get_or xs (i + 1) 0 ≢ q → option_map (λ rest. front ++ rest) (closed q (drop i xs)) ≡ total → None ≡ total
closed_early q xs i front total h e f t =
    ap (option_map (λ rest. front ++ rest)) (sym (ap (closed q) (two_more xs i h) ∙ closed_second q (get_or xs i 0) (get_or xs (i + 1) 0) (drop (i + 2) xs) (equal _ _ e) ∙ ap (λ b. cond b (option_map (λ rest. get_or xs i 0 ∷ rest) (closed q (drop (i + 2) xs))) None) (unequal _ _ f)))
    ∙ t

close_here : (xs : List ℕ) → begins_pair 42 47 xs ≡ true → close_size xs ≡ Some 2
close_here [] e = absurd (false≢true e)
close_here (c ∷ []) e = absurd (false≢true e)
close_here (c ∷ d ∷ cs) e = ap (λ b. cond b (Some 2) (option_map (λ n. 1 + n) (close_size (d ∷ cs)))) e

close_later : (c : ℕ) (cs : List ℕ) → begins_pair 42 47 (c ∷ cs) ≡ false → close_size (c ∷ cs) ≡ option_map (λ n. 1 + n) (close_size cs)
close_later c [] e = refl
close_later c (d ∷ cs) e = ap (λ b. cond b (Some 2) (option_map (λ n. 1 + n) (close_size (d ∷ cs)))) e

pub close_found : (xs : List ℕ) (i : ℕ) (total : Option ℕ) → begins_pair 42 47 (drop i xs) ≡ true → option_map (λ n. i + n) (close_size (drop i xs)) ≡ total → Some (i + 2) ≡ total
close_found xs i total e t = ap (option_map (λ n. i + n)) (sym (close_here (drop i xs) e)) ∙ t

pub close_turn : (xs : List ℕ) (i : ℕ) (total : Option ℕ) → i < length xs → begins_pair 42 47 (drop i xs) ≡ false → option_map (λ n. i + n) (close_size (drop i xs)) ≡ total → option_map (λ n. (i + 1) + n) (close_size (drop (i + 1) xs)) ≡ total
close_turn xs i total h e t =
    let first = drop_more xs i 0 h in
    let here : begins_pair 42 47 (get_or xs i 0 ∷ drop (i + 1) xs) ≡ false = ap (begins_pair 42 47) (sym first) ∙ e in
    sym (further i 1 (i + 1) (close_size (drop (i + 1) xs)) refl)
    ∙ ap (option_map (λ n. i + n)) (sym (ap close_size first ∙ close_later (get_or xs i 0) (drop (i + 1) xs) here))
    ∙ t
