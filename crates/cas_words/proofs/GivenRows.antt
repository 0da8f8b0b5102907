-- What is given, as rows of clap's matches.
use Rattle.std.proofs.Common.{◌≡◌, ◌∙◌, ap, sym, refl, Bool, cond, true, false, List, [], ◌∷◌, ◌++◌, map, Option, Some, None, append-nil, inl, inr}
use Rattle.std.specs.Prelude.{◌||◌, not, option_map, option_and_then, slice_get, find}
use Rattle.std.specs.Option.{option_map_or}
use Rattle.std.specs.List.{list_any}
use Rattle.std.specs.Str.{bytes_eq}
use Rattle.std.proofs.lemmas.Bool.{and_parts, and_from, and_left, and_right, or_parts, or_from, or_left, or_right, or_cases, not_from_true, not_from_false, not-true, true≢false}
use Rattle.std.proofs.lemmas.Cmp.{nat_list_eq_equiv}
use Rattle.std.proofs.lemmas.List.{map-append}
use Rattle.std.proofs.lemmas.List.Folds.{list_any-append}
use Rattle.clap.specs.Walk.{Row, at_row, has_row, reading_by, used, with_values, without, more_values}
use Rattle.clap.specs.Takes.{is_given}
use Rattle.clap.specs.Facts.{explicit_source}
use Rattle.clap.proofs.WalkLemmas.{find-map, list_any-map}
use Rattle.clap.specs.declared.parser.matches.ValueSource.TheVariants.{CommandLine}
use Rattle.cas_words.specs.Words.{Argument, Text, is_for, is_once, name, text_for}
use Rattle.cas_words.specs.Inner.Parser.{text_at}
use Rattle.cas_words.specs.declared.words.Setting.{Setting}
use Rattle.cas_words.proofs.ClapRules.{rule}

abbrev pub row : Argument → Row
row g = record { id = name g.0; values = g.1 ∷ []; count = None; source = Some CommandLine; reading = reading_by (rule g.0) }

abbrev pub rows : List Argument → List Row
rows = map row

abbrev pub has : Setting → List Argument → Bool
has s gs = list_any (is_for s) gs

pub has_row-rows : (s : Setting) (gs : List Argument) → has_row (name s) (rows gs) ≡ has s gs
has_row-rows s gs = sym (list_any-map (λ r. bytes_eq r.id (name s)) row gs)

-- an id that no row has
at_row-none : (id : Text) (change : Row → List Row) (missing : List Row) (rs : List Row) → has_row id rs ≡ false → at_row id change missing rs ≡ rs ++ missing
at_row-none id change missing [] h = refl
at_row-none id change missing (r ∷ rs) h =
    let parts = or_parts (bytes_eq r.id id) (has_row id rs) h in
    let other : bytes_eq r.id id ≡ false = parts.0 in
    rw other (ap (λ xs. r ∷ xs) (at_row-none id change missing rs parts.1))

pub used-rows : (s : Setting) (text : Text) (gs : List Argument) → has s gs ≡ false → used (rule s) (text ∷ []) (rows gs) ≡ rows (gs ++ (s, text) ∷ [])
used-rows s text gs h =
    let fresh : has_row (name s) (rows gs) ≡ false = has_row-rows s gs ∙ h in
    let kept : without (name s) (rows gs) ≡ rows gs = at_row-none (name s) (λ _. []) [] (rows gs) fresh ∙ append-nil (rows gs) in
    ap (with_values (name s) (reading_by (rule s)) CommandLine (text ∷ [])) kept
    ∙ at_row-none (name s) (more_values CommandLine (text ∷ [])) (row (s, text) ∷ []) (rows gs) fresh
    ∙ sym (map-append row gs ((s, text) ∷ []))

-- what is given twice
pub given_twice : (g : Argument) (gs rest : List Argument) → has g.0 gs ≡ true → is_once (gs ++ g ∷ rest) ≡ false
given_twice g [] rest h = absurd (true≢false (sym h))
given_twice g (x ∷ gs) rest h = elim (or_cases _ _ h) [
  | inl first ↦ and_left _ _ (not_from_true _ (list_any-append (is_for x.0) gs (g ∷ rest)
      ∙ or_right _ _ (or_left _ _ (nat_list_eq_equiv.symm (name g.0) (name x.0) ∙ first))))
  | inr later ↦ and_right _ _ (given_twice g gs rest later)
]

pub given_once : (g : Argument) (gs : List Argument) → is_once gs ≡ true → has g.0 gs ≡ false → is_once (gs ++ g ∷ []) ≡ true
given_once g [] once h = refl
given_once g (x ∷ gs) once h =
    let apart = or_parts (is_for g.0 x) (has g.0 gs) h in
    let was = and_parts (not (list_any (is_for x.0) gs)) (is_once gs) once in
    let none : list_any (is_for x.0) (gs ++ g ∷ []) ≡ false = list_any-append (is_for x.0) gs (g ∷ [])
    ∙ or_from _ _ (not-true _ was.0) (or_from _ _ (nat_list_eq_equiv.symm (name g.0) (name x.0) ∙ apart.0) refl) in
    and_from _ _ (not_from_false _ none) (given_once g gs was.1 apart.1)

pub has_more : (s : Setting) (gs : List Argument) (g : Argument) → has s (gs ++ g ∷ []) ≡ (has s gs || (is_for s g || false))
has_more s gs g = list_any-append (is_for s) gs (g ∷ [])

-- the text that a row has
pub text_at-rows : (gs : List Argument) (s : Setting) → text_for gs s ≡ text_at (rows gs) s
text_at-rows gs s = go (find (is_for s) gs) ∙ ap (option_and_then (λ (r : Row). slice_get r.values 0)) (find-map (λ r. bytes_eq r.id (name s)) row gs)
  where
    go : (o : Option Argument) → option_map (λ (g : Argument). g.1) o ≡ option_and_then (λ (r : Row). slice_get r.values 0) (option_map row o)
    go None = refl
    go (Some g) = refl

pub is_given-rows : (s : Setting) (gs : List Argument) → is_given (name s) (rows gs) ≡ has s gs
is_given-rows s gs = ap (λ (o : Option Row). option_map_or (λ r. explicit_source r.source) o false) (sym (find-map (λ r. bytes_eq r.id (name s)) row gs)) ∙ given gs
  where
    given : (gs : List Argument) → option_map_or (λ r. explicit_source r.source) (option_map row (find (is_for s) gs)) false ≡ has s gs
    given [] = refl
    given (g ∷ gs) = go (is_for s g) (given gs)
      where
        go : (b : Bool) → option_map_or (λ r. explicit_source r.source) (option_map row (find (is_for s) gs)) false ≡ has s gs
            → option_map_or (λ r. explicit_source r.source) (option_map row (cond b (Some g) (find (is_for s) gs))) false ≡ (b || has s gs)
        go true e = refl
        go false e = e
