-- What a text in quotes stands for is UTF-8, where the text is part of what is UTF-8.
use Rattle.std.proofs.Common.{◌≡◌, ℕ, suc, ◌+◌, ◌<◌, Bool, true, false, cond, List, [], ◌∷◌, ◌++◌, length, drop, get_or, Option, Some, None, refl, sym, ap, ◌∙◌, subst, arith, eqb, append_assoc, length-append}
use Rattle.std.specs.Prelude.{is_some, IsUtf8, flat_map}
use Rattle.std.specs.Option.{option_and_then}
use Rattle.std.specs.Str.{is_utf8}
use Rattle.std.proofs.lemmas.Bool.{eqb-true}
use Rattle.std.proofs.lemmas.Str.{IsUtf8-append, IsUtf8-take, IsUtf8-drop, IsUtf8-from_ascii, is_utf8-from_IsUtf8, IsCharBoundary-before_ascii, IsCharBoundary-after_ascii}
use Rattle.std.proofs.lemmas.Str.Ascii.{IsAscii-nil, IsAscii-cons}
use Rattle.std.proofs.Math.Seq.{take-append_seam}
use Rattle.cql_lex.specs.Quotes.{doubled, in_quotes, quoted_value, quoted_text}
use Rattle.cql_lex.proofs.RoundTrip.{quotes_round_trip}

at_seam : (xs ys : List ℕ) (a : ℕ) → get_or (xs ++ a ∷ ys) (length xs) 0 ≡ a
at_seam [] ys a = refl
at_seam (x ∷ xs) ys a = at_seam xs ys a

past_seam : (xs ys : List ℕ) (a : ℕ) → drop (length xs + 1) (xs ++ a ∷ ys) ≡ ys
past_seam [] ys a = refl
past_seam (x ∷ xs) ys a =
    let one : length (x ∷ xs) + 1 ≡ suc (length xs + 1) = omega arith in
    ap (λ k. drop k (x ∷ (xs ++ a ∷ ys))) one ∙ past_seam xs ys a

-- what stands before and after an ASCII character
ascii_split : (xs ys : List ℕ) (a : ℕ) → a < 128 → IsUtf8 (xs ++ a ∷ ys) → IsUtf8 xs × IsUtf8 ys
ascii_split xs ys a small h =
    let bs = xs ++ a ∷ ys in
    let here : get_or bs (length xs) 0 < 128 = subst (λ c. c < 128) (sym (at_seam xs ys a)) small in
    let long : length xs < length bs = omega (arith, length-append xs (a ∷ ys)) in
    let past : drop (length xs + 1) bs ≡ ys = past_seam xs ys a in (
      subst IsUtf8 (take-append_seam xs (a ∷ ys)) (IsUtf8-take bs (length xs) h (IsCharBoundary-before_ascii bs (length xs) long here)),
      subst IsUtf8 past (IsUtf8-drop bs (length xs + 1) h (IsCharBoundary-after_ascii bs (length xs) h long here)),
    )

join : (xs ys : List ℕ) (a : ℕ) → a < 128 → IsUtf8 xs → IsUtf8 ys → IsUtf8 (xs ++ a ∷ ys)
join xs ys a small x y = IsUtf8-append xs (a ∷ ys) x (IsUtf8-append (a ∷ []) ys (IsUtf8-from_ascii (a ∷ []) (IsAscii-cons a [] small IsAscii-nil)) y)

undoubled : (q : ℕ) → q < 128 → (front inner : List ℕ) → IsUtf8 (front ++ flat_map (doubled q) inner) → IsUtf8 (front ++ inner)
undoubled q small front [] h = h
undoubled q small front (c ∷ cs) h = by (eqb c q) refl (λ f u. undoubled q small f cs u) h
  where
    by : (b : Bool) → eqb c q ≡ b → ((f : List ℕ) → IsUtf8 (f ++ flat_map (doubled q) cs) → IsUtf8 (f ++ cs)) → IsUtf8 (front ++ (cond b (c ∷ c ∷ []) (c ∷ []) ++ flat_map (doubled q) cs)) → IsUtf8 (front ++ c ∷ cs)
    by true e step u =
        let low : c < 128 = subst (λ x. x < 128) (sym (eqb-true c q e)) small in
        let first = ascii_split front (c ∷ flat_map (doubled q) cs) c low u in
        let second = ascii_split [] (flat_map (doubled q) cs) c low first.1 in
        join front cs c low first.0 (step [] second.1)
    by false e step u =
        subst IsUtf8 (append_assoc front (c ∷ []) cs) (step (front ++ c ∷ []) (subst IsUtf8 (sym (append_assoc front (c ∷ []) (flat_map (doubled q) cs))) u))

-- of a text with something before and after it
inner_is_text : (q : ℕ) → q < 128 → (before text after inner : List ℕ) → IsUtf8 (before ++ (text ++ after)) → text ≡ in_quotes q inner → IsUtf8 inner
inner_is_text q small before text after inner u e =
    let spelled = flat_map (doubled q) inner in
    let whole : IsUtf8 (before ++ q ∷ ((spelled ++ q ∷ []) ++ after)) = subst (λ t. IsUtf8 (before ++ (t ++ after))) e u in
    let opened = (ascii_split before ((spelled ++ q ∷ []) ++ after) q small whole).1 in
    let rest : IsUtf8 (spelled ++ q ∷ after) = subst IsUtf8 (append_assoc spelled (q ∷ []) after) opened in
    undoubled q small [] inner (ascii_split spelled after q small rest).0

text_by : (q : ℕ) → q < 128 → (before text after : List ℕ) (o : Option (List ℕ)) → quoted_value q text ≡ o → IsUtf8 (before ++ (text ++ after)) → is_some o ≡ true → is_some (option_and_then (λ inner. cond (is_utf8 inner) (Some inner) None) o) ≡ true
text_by q small before text after None e u h = h
text_by q small before text after (Some inner) e u h =
    ap (λ b. is_some (cond b (Some inner) None)) (is_utf8-from_IsUtf8 inner (inner_is_text q small before text after inner u ((quotes_round_trip q text inner).0 e)))

pub text_in_quotes : (q : ℕ) → q < 128 → (before text after : List ℕ) → IsUtf8 (before ++ (text ++ after)) → is_some (quoted_value q text) ≡ true → is_some (quoted_text q text) ≡ true
text_in_quotes q small before text after u h = text_by q small before text after (quoted_value q text) refl u h

pub value_from_text : (q : ℕ) (text : List ℕ) → is_some (quoted_text q text) ≡ true → is_some (quoted_value q text) ≡ true
value_from_text q text h = by (quoted_value q text) h
  where
    by : (o : Option (List ℕ)) → is_some (option_and_then (λ inner. cond (is_utf8 inner) (Some inner) None) o) ≡ true → is_some o ≡ true
    by None e = e
    by (Some inner) e = refl
