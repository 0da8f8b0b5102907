-- A text in quotes stands for exactly the text that is written so.
use Rattle.std.proofs.Common.{◌≡◌, ℕ, Bool, true, false, cond, List, [], ◌∷◌, ◌++◌, Option, Some, None, refl, sym, ap, ◌∙◌, eqb}
use Rattle.std.specs.Prelude.{flat_map}
use Rattle.std.specs.Option.{option_map}
use Rattle.std.proofs.lemmas.Bool.{eqb-true}
use Rattle.std.proofs.lemmas.Option.{none-some}
use Rattle.cql_lex.specs.Quotes.{closed, quoted_value, doubled, in_quotes}
use Rattle.cql_lex.specs.Laws.{QuotesRoundTrip}
use Rattle.cql_lex.proofs.Turns.{closed_other, closed_second, equal}

abbrev spelled : ℕ → List ℕ → List ℕ
spelled q inner = flat_map (doubled q) inner ++ q ∷ []

closed_twin : (q c d : ℕ) (cs : List ℕ) → eqb c q ≡ true → eqb d q ≡ true → closed q (c ∷ d ∷ cs) ≡ option_map (λ rest. c ∷ rest) (closed q cs)
closed_twin q c d cs e f = closed_second q c d cs e ∙ ap (λ b. cond b (option_map (λ rest. c ∷ rest) (closed q cs)) None) f

reads : (q : ℕ) (inner : List ℕ) → closed q (spelled q inner) ≡ Some inner
reads q [] = ap (λ b. cond b (Some []) None) (equal q q refl)
reads q (c ∷ cs) = by (eqb c q) refl (reads q cs)
  where
    by : (b : Bool) → eqb c q ≡ b → closed q (spelled q cs) ≡ Some cs → closed q ((cond b (c ∷ c ∷ []) (c ∷ []) ++ flat_map (doubled q) cs) ++ q ∷ []) ≡ Some (c ∷ cs)
    by true e h = closed_twin q c c (spelled q cs) e e ∙ ap (option_map (λ rest. c ∷ rest)) h
    by false e h = closed_other q c (spelled q cs) e ∙ ap (option_map (λ rest. c ∷ rest)) h

mapped : (c : ℕ) (o : Option (List ℕ)) (inner : List ℕ) → option_map (λ rest. c ∷ rest) o ≡ Some inner → (rest : List ℕ) × (o ≡ Some rest) × (inner ≡ c ∷ rest)
mapped c None inner e = absurd (none-some inner e)
mapped c (Some rest) inner e = (rest, refl, cc)

once : (q c : ℕ) (rest : List ℕ) → eqb c q ≡ false → c ∷ spelled q rest ≡ spelled q (c ∷ rest)
once q c rest e = ap (λ b. (cond b (c ∷ c ∷ []) (c ∷ []) ++ flat_map (doubled q) rest) ++ q ∷ []) (sym e)

twice : (q c : ℕ) (rest : List ℕ) → eqb c q ≡ true → c ∷ c ∷ spelled q rest ≡ spelled q (c ∷ rest)
twice q c rest e = ap (λ b. (cond b (c ∷ c ∷ []) (c ∷ []) ++ flat_map (doubled q) rest) ++ q ∷ []) (sym e)

spells : (q : ℕ) (text inner : List ℕ) → closed q text ≡ Some inner → text ≡ spelled q inner
spells q [] inner e = absurd (none-some inner e)
spells q (c ∷ []) inner e = by (eqb c q) refl e
  where
    by : (b : Bool) → eqb c q ≡ b → cond b (Some []) None ≡ Some inner → c ∷ [] ≡ spelled q inner
    by true f g = let none : [] ≡ inner = cc in ap (λ x. x ∷ []) (eqb-true c q f) ∙ ap (spelled q) none
    by false f g = absurd (none-some inner g)
spells q (c ∷ d ∷ cs) inner e = by (eqb c q) (eqb d q) refl refl (λ x h. spells q cs x h) (λ x h. spells q (d ∷ cs) x h) e
  where
    by : (b t : Bool) → eqb c q ≡ b → eqb d q ≡ t → ((x : List ℕ) → closed q cs ≡ Some x → cs ≡ spelled q x) → ((x : List ℕ) → closed q (d ∷ cs) ≡ Some x → d ∷ cs ≡ spelled q x) → cond b (cond t (option_map (λ rest. c ∷ rest) (closed q cs)) None) (option_map (λ rest. c ∷ rest) (closed q (d ∷ cs))) ≡ Some inner → c ∷ d ∷ cs ≡ spelled q inner
    by true true f g two one h =
        let m = mapped c (closed q cs) inner h in
        let same : d ≡ c = eqb-true d q g ∙ sym (eqb-true c q f) in
        (λ i. c ∷ same i ∷ two m.0 m.1 i) ∙ twice q c m.0 f ∙ ap (spelled q) (sym m.2)
    by true false f g two one h = absurd (none-some inner h)
    by false t f g two one h =
        let m = mapped c (closed q (d ∷ cs)) inner h in
        (λ i. c ∷ one m.0 m.1 i) ∙ once q c m.0 f ∙ ap (spelled q) (sym m.2)

written : (q : ℕ) (text inner : List ℕ) → quoted_value q text ≡ Some inner → text ≡ in_quotes q inner
written q [] inner e = absurd (none-some inner e)
written q (c ∷ cs) inner e = by (eqb c q) refl e
  where
    by : (b : Bool) → eqb c q ≡ b → cond b (closed q cs) None ≡ Some inner → c ∷ cs ≡ in_quotes q inner
    by true f g = λ i. eqb-true c q f i ∷ spells q cs inner g i
    by false f g = absurd (none-some inner g)

pub quotes_round_trip : QuotesRoundTrip
quotes_round_trip q text inner = (
  written q text inner,
  λ e. ap (quoted_value q) e ∙ ap (λ b. cond b (closed q (spelled q inner)) None) (equal q q refl) ∙ reads q inner,
)
