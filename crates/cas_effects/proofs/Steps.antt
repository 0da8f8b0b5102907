-- What loops over a list keep, from what their calls ensure.
use Rattle.std.proofs.Common.{◌≡◌, ℕ, ◌+◌, ◌<◌, List, [], ◌∷◌, ◌++◌, length, take, get_or, map, Option, None, Some, sym, ap, refl, ◌∙◌, arith}
use Rattle.std.specs.List.{flat_map, filter_map, cons_option, enumerate_from}
use Rattle.std.specs.Option.{option_to_list}
use Rattle.std.proofs.lemmas.List.Elements.{filter_map-append}
use Rattle.std.proofs.lemmas.List.{take_more, flat_map_more, map-append, length-take-le}

module _ {X Y : Type 0} (f : X → List Y) where
  pub flat_map_step : (A : List X) (i : ℕ) (x : X) (before after : List Y) → i < length A → x ≡ get_or A i x → before ≡ flat_map f (take i A) → after ≡ before ++ f x → after ≡ flat_map f (take (i + 1) A)
  flat_map_step A i x before after h e b a =
      a ∙ ap (λ l. l ++ f x) b ∙ flat_map_more f [] (take i A) x ∙ ap (λ y. flat_map f (take i A ++ y ∷ [])) e ∙ sym (ap (flat_map f) (take_more A i x h))

module _ {X Y : Type 0} (f : X → Option Y) where
  as_list : (o : Option Y) → cons_option o [] ≡ option_to_list o
  as_list None = refl
  as_list (Some y) = refl

  pub filter_map_step : (A : List X) (i : ℕ) (x : X) (before after : List Y) → i < length A → x ≡ get_or A i x → before ≡ filter_map f (take i A) → after ≡ before ++ option_to_list (f x) → after ≡ filter_map f (take (i + 1) A)
  filter_map_step A i x before after h e b a =
      a ∙ (λ j. b j ++ sym (as_list (f x)) j)
      ∙ sym (filter_map-append f (take i A) (x ∷ []))
      ∙ ap (λ y. filter_map f (take i A ++ y ∷ [])) e ∙ sym (ap (filter_map f) (take_more A i x h))

module _ {X : Type 0} where
  enumerate_append : (n : ℕ) (xs : List X) (x : X) → enumerate_from n (xs ++ x ∷ []) ≡ enumerate_from n xs ++ (n + length xs, x) ∷ []
  enumerate_append n [] x = ap (λ m. (m, x) ∷ []) (omega arith)
  enumerate_append n (y ∷ xs) x =
      ap (λ l. (n, y) ∷ l) (enumerate_append (n + 1) xs x ∙ ap (λ m. enumerate_from (n + 1) xs ++ (m, x) ∷ []) (omega arith))

  enumerate_more : (A : List X) (i : ℕ) (x : X) → i < length A → x ≡ get_or A i x → enumerate_from 0 (take (i + 1) A) ≡ enumerate_from 0 (take i A) ++ (i, x) ∷ []
  enumerate_more A i x h e =
      let within : length (take i A) ≡ i = length-take-le i A (omega arith) in
      ap (enumerate_from 0) (take_more A i x h ∙ ap (λ y. take i A ++ y ∷ []) (sym e))
      ∙ enumerate_append 0 (take i A) x
      ∙ ap (λ m. enumerate_from 0 (take i A) ++ (m, x) ∷ []) (omega arith)

  pub enumerate_step : {Y : Type 0} (f : ℕ × X → Y) (A : List X) (i : ℕ) (x : X) (before after : List Y) → i < length A → x ≡ get_or A i x
      → before ≡ map f (enumerate_from 0 (take i A)) → after ≡ before ++ f (i, x) ∷ [] → after ≡ map f (enumerate_from 0 (take (i + 1) A))
  enumerate_step f A i x before after h e b a =
      a ∙ ap (λ l. l ++ f (i, x) ∷ []) b
      ∙ sym (ap (map f) (enumerate_more A i x h e) ∙ map-append f (enumerate_from 0 (take i A)) ((i, x) ∷ []))
