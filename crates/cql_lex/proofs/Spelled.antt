-- What is UTF-8, a name or a uuid.
use Rattle.std.proofs.Common.{◌≡◌, ◌≢◌, ℕ, ◌<◌, ◌+◌, get_or, set, ap₂, Bool, true, false, cond, List, [], ◌∷◌, length, map, take, drop, not, ◌++◌, subst, Option, Some, None, refl, sym, ap, ◌∙◌, arith, ◌&&◌}
use Rattle.std.specs.Prelude.{is_some, IsUtf8, IsAscii}
use Rattle.std.specs.Str.{is_utf8}
use Rattle.std.specs.List.{list_all}
use Rattle.std.specs.Char.{is_ascii_alphabetic, to_ascii_lowercase}
use Rattle.std.proofs.lemmas.Str.{IsUtf8-from_is_utf8, is_utf8-from_IsUtf8, IsUtf8-from_ascii}
use Rattle.std.proofs.lemmas.List.{length-take, map-append, take_more, take_more_set}
use Rattle.std.proofs.lemmas.Option.{none-some}
use Rattle.std.proofs.lemmas.Str.Ascii.{IsAscii-nil, IsAscii-cons}
use Rattle.std.proofs.lemmas.Bool.{ne_eqb, and_parts}
use Rattle.std.proofs.lemmas.Bool.Decides.{nat_tests}
use Rattle.uuid.specs.Text.{parsed, parsed_hyphenated, parsed_simple, digits_of, has_hyphens}
use Rattle.cql_lex.specs.Characters.{is_word, first_is}
use Rattle.cql_lex.specs.Constants.{is_name, uuid_value}
use Rattle.cql_lex.specs.Rules.{begins_uuid}

-- one letter more, where they are lowered one after another
pub one_lowered : (text places : List ℕ) (i n c : ℕ) → n ≡ i + 1 → i < length places → i < length text → c ≡ to_ascii_lowercase (get_or text i 0) → take i places ≡ map to_ascii_lowercase (take i text)
    → take n (set places i c) ≡ map to_ascii_lowercase (take n text)
one_lowered text places i n c e h k same before =
    let more : take (i + 1) text ≡ take i text ++ get_or text i 0 ∷ [] = take_more text i 0 k in
    ap (λ m. take m (set places i c)) e
    ∙ take_more_set places i c h
    ∙ ap₂ (λ front x. front ++ x ∷ []) before same
    ∙ sym (map-append to_ascii_lowercase (take i text) (get_or text i 0 ∷ []))
    ∙ ap (map to_ascii_lowercase) (sym more ∙ ap (λ m. take m text) (sym e))

pub is_text : (bs : List ℕ) → IsUtf8 bs → Some bs ≡ cond (is_utf8 bs) (Some bs) None
is_text bs h = ap (λ b. cond b (Some bs) None) (sym (is_utf8-from_IsUtf8 bs h))

no_text_by : (bs : List ℕ) (b : Bool) → is_utf8 bs ≡ b → ¬ (IsUtf8 bs) → None ≡ cond b (Some bs) None
no_text_by bs true e n = absurd (n (IsUtf8-from_is_utf8 bs e))
no_text_by bs false e n = refl

pub no_text : (bs : List ℕ) → ¬ (IsUtf8 bs) → None ≡ cond (is_utf8 bs) (Some bs) None
no_text bs n = no_text_by bs (is_utf8 bs) refl n

lowered : (c : ℕ) → is_word c ≡ true → to_ascii_lowercase c < 128
lowered c e = grind (arith, nat_tests)

names_ascii : (text : List ℕ) → list_all is_word text ≡ true → IsAscii (map to_ascii_lowercase text)
names_ascii [] e = IsAscii-nil
names_ascii (c ∷ cs) e =
    let h = and_parts (is_word c) (list_all is_word cs) e in
    IsAscii-cons (to_ascii_lowercase c) (map to_ascii_lowercase cs) (lowered c h.0) (names_ascii cs h.1)

pub name_is_text : (text : List ℕ) → is_name text ≡ true → IsUtf8 (map to_ascii_lowercase text)
name_is_text text e = IsUtf8-from_ascii _ (names_ascii text (and_parts (first_is is_ascii_alphabetic text) (list_all is_word text) e).1)

pub is_none : {X : Type 0} (o : Option X) → (((u : X) × (o ≡ Some u)) → ⊥) → None ≡ o
is_none None h = refl
is_none (Some u) h = absurd (h (u, refl))

pub of_36 : (s : List ℕ) → length s ≡ 36 → parsed s ≡ parsed_hyphenated s
of_36 s e = rw e refl

pub not_of_36 : (s : List ℕ) → length s ≢ 36 → is_some (uuid_value s) ≡ false
not_of_36 s h = ap (λ b. is_some (cond (b && has_hyphens s) (parsed_simple (digits_of s)) None)) (ne_eqb (length s) 36 h)

pub name_written : (low bytes : List ℕ) (r : Option (List ℕ)) → IsUtf8 low → bytes ≡ low → r ≡ cond (is_utf8 bytes) (Some bytes) None → r ≡ None → ⊥
name_written low bytes r h same read none = none-some bytes (sym none ∙ read ∙ sym (is_text bytes (subst IsUtf8 (sym same) h)))

pub short_no_uuid : (text : List ℕ) → length text < 36 → false ≡ begins_uuid text
short_no_uuid text h =
    let small : length (take 36 text) ≢ 36 = λ e. absurd (omega (arith, length-take 36 text)) in
    sym (ap (λ b. b && not (first_is is_word (drop 36 text))) (not_of_36 (take 36 text) small))
