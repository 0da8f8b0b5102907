-- What a line can't say where its text means nothing.
use Rattle.std.proofs.Common.{◌≡◌, List, [], ◌∷◌, ℕ, ℤ, Bool, true, false, cond, ◌&&◌, Option, None, Some, refl, sym, ap, ◌∙◌, subst, arith}
use Rattle.std.specs.Prelude.{IsUtf8, codes}
use Rattle.std.proofs.lemmas.Bool.{true≢false}
use Rattle.std.proofs.lemmas.Int.{ints}
use Rattle.cas_types.specs.Limits.{IsMoment}
use Rattle.cql_lex.specs.Numbers.{number_value}
use Rattle.std.proofs.lemmas.Bool.Decides.{nat_tests}
use Rattle.std.proofs.lemmas.Option.{none-some, same_Some}
use Rattle.std.proofs.lemmas.Slice.Eq.{bytes_eq-Decides}
use Rattle.std.specs.Str.{bytes_eq, str_eq_ignore_ascii_case, str_to_ascii_lowercase}
use Rattle.cql_lex.specs.declared.token.Token.{Token}
use Rattle.cql_lex.specs.Lexes.{Lexes}
use Rattle.cql_lex.proofs.Backslash.{refused}
use Rattle.cql_parse.specs.declared.syntax.Statement.{Statement}
use Rattle.cql_parse.specs.Means.{LineMeans}
use Rattle.cas_lines.specs.declared.line.Line.{Line}
use Rattle.cas_lines.specs.declared.line.Line.TheVariants as line
use Rattle.cql_parse.specs.declared.syntax.TableName.{TableName}
use Rattle.cas_lines.specs.Lines.{Commands, IsTable, Spells, asks_status, clock_of, clock_in, is_command, seconds_in, status_in, word_in, word_of, words_of}

-- ---- a command begins with `\`

pub begun : (text : List ℕ) → is_command text ≡ true → (rest : List ℕ) × (text ≡ 92 ∷ rest)
begun [] e = absurd (true≢false (sym e))
begun (b ∷ rest) e = let same : b ≡ 92 = grind (arith, nat_tests, e) in (rest, ap (λ x. x ∷ rest) same)

-- a command has no tokens
pub no_token : (text : List ℕ) (tokens : List Token) → is_command text ≡ true → Lexes text tokens → ⊥
no_token text tokens e lexed = let b = begun text e in refused b.0 tokens (subst (λ t. Lexes t tokens) b.1 lexed)

tested : (b : Bool) (o : Option ℤ) (n : ℤ) → cond b o None ≡ Some n → b ≡ true
tested true o n e = refl
tested false o n e = absurd (none-some n e)

-- a line that sets the clock is a command
pub sets_by_command : (text : List ℕ) (n : ℤ) → clock_of text ≡ Some n → is_command text ≡ true
unfolding clock_of
sets_by_command text n e = tested (is_command text) _ n e

by_test : (b : Bool) (o : Option (List ℕ)) (w : List ℕ) → cond b o None ≡ Some w → b ≡ true
by_test true o w e = refl
by_test false o w e = absurd (none-some w e)

-- a line that tells a command of a table is a command
pub tells_by_command : (c text : List ℕ) (t : TableName) → Commands c text t → is_command text ≡ true
unfolding word_of
tells_by_command c text t f = by_test (is_command text) _ f.0 f.1

-- the word behind a command's name
pub word_is : (c text : List ℕ) (o : Option (List ℕ)) → is_command text ≡ true → o ≡ word_in c (words_of text) → word_of c text ≡ o
unfolding word_of
word_is c text o e is = ap (λ b. cond b (word_in c (words_of text)) None) e ∙ sym is

both_tests : (a b : Bool) → (a && b) ≡ true → (a ≡ true) × (b ≡ true)
both_tests true true e = (refl, refl)
both_tests true false e = absurd (true≢false (sym e))
both_tests false b e = absurd (true≢false (sym e))

-- a line that asks for the status is a command
pub asks_by_command : (text : List ℕ) → asks_status text ≡ true → is_command text ≡ true
unfolding asks_status
asks_by_command text e = (both_tests (is_command text) (status_in (words_of text)) e).0

-- whether a command asks for it
pub status_is : (text : List ℕ) (b : Bool) → is_command text ≡ true → b ≡ status_in (words_of text) → asks_status text ≡ b
unfolding asks_status
status_is text b e is = ap (λ x. x && status_in (words_of text)) e ∙ sym is

-- ---- a command is one

named_alike : (name a b : List ℕ) → str_eq_ignore_ascii_case name a ≡ true → str_eq_ignore_ascii_case name b ≡ true
    → str_to_ascii_lowercase a ≡ str_to_ascii_lowercase b
named_alike name a b x y = sym ((bytes_eq-Decides _ _).0 x) ∙ (bytes_eq-Decides _ _).0 y

-- in small letters the names differ
abbrev pub Differ : List ℕ → List ℕ → Type 0
Differ a b = bytes_eq (str_to_ascii_lowercase a) (str_to_ascii_lowercase b) ≡ false

two_names : (name a b : List ℕ) → Differ a b → str_eq_ignore_ascii_case name a ≡ true → str_eq_ignore_ascii_case name b ≡ true → ⊥
two_names name a b d x y = true≢false (sym ((bytes_eq-Decides _ _).1 (named_alike name a b x y)) ∙ d)

no_two : (c : List ℕ) (words : List (List ℕ)) (n : ℤ) (word : List ℕ) → Differ (codes "\\clock") c → clock_in words ≡ Some n → word_in c words ≡ Some word → ⊥
no_two c [] n w d e f = none-some n e
no_two c (a ∷ []) n w d e f = none-some n e
no_two c (name ∷ word ∷ []) n w d e f =
    two_names name (codes "\\clock") c d (tested _ (seconds_in (number_value word)) n e) (by_test _ (Some word) w f)
no_two c (a ∷ b ∷ x ∷ words) n w d e f = none-some n e

-- one of another name sets no clock
pub tells_no_clock : (c text word : List ℕ) (n : ℤ) → Differ (codes "\\clock") c → word_of c text ≡ Some word → clock_of text ≡ Some n → ⊥
unfolding clock_of word_of
tells_no_clock c text word n d f e =
    let is : is_command text ≡ true = tested (is_command text) _ n e in
    no_two c (words_of text) n word d (ap (λ b. cond b (clock_in (words_of text)) None) (sym is) ∙ e)
    (ap (λ b. cond b (word_in c (words_of text)) None) (sym is) ∙ f)

no_both : (a b : List ℕ) (words : List (List ℕ)) (v w : List ℕ) → Differ a b → word_in a words ≡ Some v → word_in b words ≡ Some w → ⊥
no_both a b [] v w d e f = none-some v e
no_both a b (x ∷ []) v w d e f = none-some v e
no_both a b (name ∷ word ∷ []) v w d e f = two_names name a b d (by_test _ (Some word) v e) (by_test _ (Some word) w f)
no_both a b (x ∷ y ∷ z ∷ words) v w d e f = none-some v e

-- one of a name isn't one of another
pub tells_one : (a b text v w : List ℕ) → Differ a b → word_of a text ≡ Some v → word_of b text ≡ Some w → ⊥
unfolding word_of
tells_one a b text v w d e f =
    let is : is_command text ≡ true = by_test (is_command text) _ v e in
    no_both a b (words_of text) v w d (ap (λ x. cond x (word_in a (words_of text)) None) (sym is) ∙ e)
    (ap (λ x. cond x (word_in b (words_of text)) None) (sym is) ∙ f)

-- ---- one of one word is none of two

one_or_two : (c : List ℕ) (words : List (List ℕ)) (word : List ℕ) → status_in words ≡ true → word_in c words ≡ Some word → ⊥
one_or_two c [] word s f = none-some word f
one_or_two c (a ∷ []) word s f = none-some word f
one_or_two c (a ∷ b ∷ words) word s f = true≢false (sym s)

one_or_set : (words : List (List ℕ)) (n : ℤ) → status_in words ≡ true → clock_in words ≡ Some n → ⊥
one_or_set [] n s e = none-some n e
one_or_set (a ∷ []) n s e = none-some n e
one_or_set (a ∷ b ∷ words) n s e = true≢false (sym s)

-- one that asks for the status sets no clock
pub asks_no_clock : (text : List ℕ) (n : ℤ) → asks_status text ≡ true → clock_of text ≡ Some n → ⊥
unfolding clock_of asks_status
asks_no_clock text n s e =
    let is = both_tests (is_command text) (status_in (words_of text)) s in
    one_or_set (words_of text) n is.1 (ap (λ b. cond b (clock_in (words_of text)) None) (sym is.0) ∙ e)

-- and tells no command of a table
pub asks_no_table : (c text word : List ℕ) → asks_status text ≡ true → word_of c text ≡ Some word → ⊥
unfolding word_of asks_status
asks_no_table c text word s f =
    let is = both_tests (is_command text) (status_in (words_of text)) s in
    one_or_two c (words_of text) word is.1 (ap (λ b. cond b (word_in c (words_of text)) None) (sym is.0) ∙ f)

-- a command that sets no clock, flushes and verifies nothing and doesn't ask for the status says nothing that is known
pub no_command : (text : List ℕ) → is_command text ≡ true → clock_in (words_of text) ≡ None → word_of (codes "\\flush") text ≡ None
    → word_of (codes "\\verify") text ≡ None → asks_status text ≡ false → (l : Line) → Spells text l → ⊥
unfolding clock_of
no_command text e h f v n line.Blank s = no_token text [] e s.1
no_command text e h f v n (line.Statement st) s = no_token text s.1.0 e s.1.1
no_command text e h f v n (line.Clock k) s = none-some k (sym h ∙ (ap (λ b. cond b (clock_in (words_of text)) None) (sym e) ∙ s))
no_command text e h f v n (line.Flush t) s = none-some s.0 (sym f ∙ s.1)
no_command text e h f v n (line.Verify t) s = none-some s.0 (sym v ∙ s.1)
no_command text e h f v n line.Status s = true≢false (sym s ∙ n)
no_command text e h f v n line.Syntax s = s

-- what the words of a command tell
pub ruleset commands_read = (no_command, word_is, status_is)

names_none : (c text word : List ℕ) (t : TableName) → word_of c text ≡ Some word → ((t : TableName) → IsTable word t → ⊥) → Commands c text t → ⊥
names_none c text word t f h s = h t (subst (λ w. IsTable w t) (sym (same_Some word s.0 (sym f ∙ s.1))) s.2)

-- nor does one whose word names no table
pub no_flushed_table : (text word : List ℕ) → is_command text ≡ true → word_of (codes "\\flush") text ≡ Some word → ((t : TableName) → IsTable word t → ⊥)
    → (l : Line) → Spells text l → ⊥
no_flushed_table text word e f h line.Blank s = no_token text [] e s.1
no_flushed_table text word e f h (line.Statement st) s = no_token text s.1.0 e s.1.1
no_flushed_table text word e f h (line.Clock n) s = tells_no_clock (codes "\\flush") text word n refl f s
no_flushed_table text word e f h (line.Flush t) s = names_none (codes "\\flush") text word t f h s
no_flushed_table text word e f h (line.Verify t) s = tells_one (codes "\\flush") (codes "\\verify") text word s.0 refl f s.1
no_flushed_table text word e f h line.Status s = asks_no_table (codes "\\flush") text word s f
no_flushed_table text word e f h line.Syntax s = s

pub no_verified_table : (text word : List ℕ) → is_command text ≡ true → word_of (codes "\\verify") text ≡ Some word → ((t : TableName) → IsTable word t → ⊥)
    → (l : Line) → Spells text l → ⊥
no_verified_table text word e f h line.Blank s = no_token text [] e s.1
no_verified_table text word e f h (line.Statement st) s = no_token text s.1.0 e s.1.1
no_verified_table text word e f h (line.Clock n) s = tells_no_clock (codes "\\verify") text word n refl f s
no_verified_table text word e f h (line.Flush t) s = tells_one (codes "\\flush") (codes "\\verify") text s.0 word refl s.1 f
no_verified_table text word e f h (line.Verify t) s = names_none (codes "\\verify") text word t f h s
no_verified_table text word e f h line.Status s = asks_no_table (codes "\\verify") text word s f
no_verified_table text word e f h line.Syntax s = s

-- a line that is no command sets no clock
not_set : (text : List ℕ) (n : ℤ) → is_command text ≡ false → clock_of text ≡ Some n → ⊥
not_set text n e s = true≢false (sym (sets_by_command text n s) ∙ e)

-- and tells no command of a table
no_tables : (c text : List ℕ) (t : TableName) → is_command text ≡ false → Commands c text t → ⊥
no_tables c text t e s = true≢false (sym (tells_by_command c text t s) ∙ e)

-- nor does it ask for the status
no_status : (text : List ℕ) → is_command text ≡ false → asks_status text ≡ true → ⊥
no_status text e s = true≢false (sym (asks_by_command text s) ∙ e)

pub no_meaning : (text : List ℕ) → is_command text ≡ false → ((read : Option Statement) → LineMeans text read → ⊥) → (l : Line) → Spells text l → ⊥
no_meaning text c h line.Blank s = h None s.1
no_meaning text c h (line.Statement st) s = h (Some st) s.1
no_meaning text c h (line.Clock n) s = not_set text n c s
no_meaning text c h (line.Flush t) s = no_tables (codes "\\flush") text t c s
no_meaning text c h (line.Verify t) s = no_tables (codes "\\verify") text t c s
no_meaning text c h line.Status s = no_status text c s
no_meaning text c h line.Syntax s = s

pub not_utf8 : (text : List ℕ) → is_command text ≡ false → (IsUtf8 text → ⊥) → (l : Line) → Spells text l → ⊥
not_utf8 text c h line.Blank s = h s.0
not_utf8 text c h (line.Statement st) s = h s.0
not_utf8 text c h (line.Clock n) s = not_set text n c s
not_utf8 text c h (line.Flush t) s = no_tables (codes "\\flush") text t c s
not_utf8 text c h (line.Verify t) s = no_tables (codes "\\verify") text t c s
not_utf8 text c h line.Status s = no_status text c s
not_utf8 text c h line.Syntax s = s

-- ---- what the clock is set to

seconds_are : (o : Option ℤ) (n : ℤ) → seconds_in o ≡ Some n → IsMoment n
seconds_are None n e = absurd (none-some n e)
seconds_are (Some m) n e = grind (arith, ints, e)

by_name : (b : Bool) (o : Option ℤ) (n : ℤ) → cond b (seconds_in o) None ≡ Some n → IsMoment n
by_name true o n e = seconds_are o n e
by_name false o n e = absurd (none-some n e)

in_words : (ws : List (List ℕ)) (n : ℤ) → clock_in ws ≡ Some n → IsMoment n
in_words [] n e = absurd (none-some n e)
in_words (a ∷ []) n e = absurd (none-some n e)
in_words (a ∷ b ∷ []) n e = by_name _ (number_value b) n e
in_words (a ∷ b ∷ d ∷ ws) n e = absurd (none-some n e)

in_command : (b : Bool) (ws : List (List ℕ)) (n : ℤ) → cond b (clock_in ws) None ≡ Some n → IsMoment n
in_command true ws n e = in_words ws n e
in_command false ws n e = absurd (none-some n e)

pub clock_is_moment : (text : List ℕ) (n : ℤ) → clock_of text ≡ Some n → IsMoment n
unfolding clock_of
clock_is_moment text n e = in_command (is_command text) (words_of text) n e
