-- Texts in quotes, in which a quote stands twice for one.
-- CQL documentation, "Definitions: constants" (string), "identifiers" (quoted).
use Rattle.std.specs.Prelude.{ℕ, ◌==◌, ◌+◌, List, [], ◌∷◌, ◌++◌, flat_map, Option, None, Some, option_map, option_and_then, if◌then◌else◌}
use Rattle.std.specs.Str.{is_utf8}

-- the quote of a name: `"`
abbrev pub name_quote : ℕ
name_quote = 34

-- the quote of a string: `'`
abbrev pub string_quote : ℕ
string_quote = 39

-- a character as it is written within quotes: a quote twice, any other once
abbrev pub doubled : ℕ → ℕ → List ℕ
doubled quote c = if c == quote then c ∷ c ∷ [] else c ∷ []

-- how a text is written in quotes: `it's` as `'it''s'`
abbrev pub in_quotes : ℕ → List ℕ → List ℕ
in_quotes quote text = quote ∷ (flat_map (doubled quote) text ++ quote ∷ [])

-- what follows an opening quote, read up to its closing quote, which has to be the end: `it''s'` gives `it's`
abbrev pub closed : ℕ → List ℕ → Option (List ℕ)
closed quote [] = None
closed quote (c ∷ []) = if c == quote then Some [] else None
closed quote (c ∷ d ∷ cs) =
    if c == quote then (if d == quote then option_map (λ text. c ∷ text) (closed quote cs) else None)
    else option_map (λ text. c ∷ text) (closed quote (d ∷ cs))

-- the text that is written in quotes: `'it''s'` gives `it's`; `'a`, `a'` and `'a'b'` give none
abbrev pub quoted_value : ℕ → List ℕ → Option (List ℕ)
quoted_value quote [] = None
quoted_value quote (c ∷ cs) = if c == quote then closed quote cs else None

-- how many bytes there are up to the end of the closing quote, which is the first that isn't doubled: of `a''b'c` there are 5
abbrev pub closing_size : ℕ → List ℕ → Option ℕ
closing_size quote [] = None
closing_size quote (c ∷ []) = if c == quote then Some 1 else None
closing_size quote (c ∷ d ∷ cs) =
    if c == quote then (if d == quote then option_map (λ n. 2 + n) (closing_size quote cs) else Some 1)
    else option_map (λ n. 1 + n) (closing_size quote (d ∷ cs))

-- the text that is written in quotes, where it is UTF-8, as a line is
abbrev pub quoted_text : ℕ → List ℕ → Option (List ℕ)
quoted_text quote text = option_and_then (λ inner. if is_utf8 inner then Some inner else None) (quoted_value quote text)
