-- What loops over a list keep, from what their calls ensure.
use Rattle.std.proofs.Common.{◌≡◌, ℕ, ℤ, ◌+◌, ◌<◌, ◌≤◌, Bool, true, false, cond, Option, Some, List, [], ◌∷◌, ◌++◌, length, take, get_or, map, filter, sym, ap, ◌∙◌}
use Rattle.std.proofs.lemmas.List.{map_more, map-append, take-map, take_all, append-nil}
use Rattle.std.proofs.lemmas.List.Elements.{filter_more}
use Rattle.std.proofs.lemmas.Simd.{map-map}
use Rattle.cas_atoms.specs.Coordinates.{clustered, row_key}
use Rattle.cas_atoms.specs.Answers.{limited, with_static, turned, answered, row_shown, answer}
use Rattle.cas_atoms.specs.declared.atom.Atom.{Atom}
use Rattle.cas_atoms.specs.declared.query.Query.{Query}
use Rattle.cas_atoms.specs.declared.query.LiveRow.{LiveRow}

module _ {X : Type 0} (p : X → Bool) (A : List X) (i : ℕ) (x : X) (h : i < length A) (e : x ≡ get_or A i x) where
  decided : (t : Bool) → p x ≡ t → filter p (take (i + 1) A) ≡ filter p (take i A) ++ cond t (x ∷ []) []
  decided t d = filter_more p A i x h ∙ ap (λ y. filter p (take i A) ++ cond (p y) (y ∷ []) []) (sym e) ∙ ap (λ b. filter p (take i A) ++ cond b (x ∷ []) []) d

  pub filter_takes : (before after : List X) (copy : X) (t : Bool) → t ≡ p x → t ≡ true → copy ≡ x → before ≡ filter p (take i A) → after ≡ before ++ copy ∷ [] → after ≡ filter p (take (i + 1) A)
  filter_takes before after copy t told holds same b a =
      a ∙ (λ j. b j ++ same j ∷ []) ∙ sym (decided true (sym told ∙ holds))

  pub filter_leaves : (before after : List X) (t : Bool) → t ≡ p x → t ≡ false → before ≡ filter p (take i A) → after ≡ before → after ≡ filter p (take (i + 1) A)
  filter_leaves before after t told fails b a =
      a ∙ b ∙ sym (decided false (sym told ∙ fails) ∙ append-nil (filter p (take i A)))

pub keys_step : (A : List (List (List ℕ))) (i : ℕ) (x copy : List (List ℕ)) (before after : List (Option (List (List ℕ)))) → i < length A → x ≡ get_or A i x → copy ≡ x
    → map row_key before ≡ map clustered (take i A) → after ≡ before ++ Some copy ∷ [] → map row_key after ≡ map clustered (take (i + 1) A)
keys_step A i x copy before after h e same b a =
    ap (map row_key) a ∙ map-append row_key before (Some copy ∷ []) ∙ (λ j. b j ++ clustered (same j) ∷ []) ∙ ap (λ y. map clustered (take i A) ++ clustered y ∷ []) e ∙ sym (map_more clustered A i x h)

pub limited_keys : (limit : Option ℕ) (n : ℕ) (xs ys : List (Option (List (List ℕ)))) → limit ≡ Some n → ys ≡ take n xs → map row_key ys ≡ limited limit (map row_key xs)
limited_keys limit n xs ys e c = ap (map row_key) c ∙ sym (take-map row_key n xs) ∙ ap (λ l. limited l (map row_key xs)) (sym e)

-- from what the answer's calls ensure, one after another
pub answer_of_steps : (q : Query) (atoms : List Atom) (now : ℤ) (rows turned_rows lent : List (List (List ℕ))) (all keys seen : List (Option (List (List ℕ)))) (shown : List LiveRow) (i : ℕ)
    → rows ≡ answered q atoms now → turned_rows ≡ turned q.reversed rows → lent ≡ turned_rows
    → map row_key all ≡ with_static q atoms now lent → map row_key keys ≡ limited q.limit (map row_key all) → seen ≡ keys
    → shown ≡ map (λ k. row_shown q atoms now (row_key k)) (take i seen) → length seen ≤ i
    → shown ≡ answer q atoms now
unfolding answer
answer_of_steps q atoms now rows turned_rows lent all keys seen shown i answers turns lends statics limits sees shows ends =
    let each : shown ≡ map (row_shown q atoms now) (map row_key seen) =
    shows ∙ ap (map (λ k. row_shown q atoms now (row_key k))) (take_all i seen ends) ∙ sym (map-map (row_shown q atoms now) row_key seen) in
    let in_order : lent ≡ turned q.reversed (answered q atoms now) = lends ∙ turns ∙ ap (turned q.reversed) answers in
    let chosen : map row_key seen ≡ limited q.limit (with_static q atoms now (turned q.reversed (answered q atoms now))) =
    ap (map row_key) sees ∙ limits ∙ ap (limited q.limit) (statics ∙ ap (with_static q atoms now) in_order) in
    each ∙ ap (map (row_shown q atoms now)) chosen
