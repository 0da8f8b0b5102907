-- The characters that CQL's tokens are made of, by their ASCII codes.
-- CQL documentation, "Definitions: identifiers and keywords, constants".
use Rattle.std.specs.Prelude.{ℕ, Bool, false, ◌==◌, ◌&&◌, ◌||◌, ◌/◌, ◌*◌, List, [], ◌∷◌}
use Rattle.std.specs.List.{prefix_len}
use Rattle.std.specs.Char.{is_ascii_digit, is_ascii_alphanumeric, is_ascii_hexdigit}

-- a letter, a digit or `_`, all of ASCII
abbrev pub is_word : ℕ → Bool
is_word c = is_ascii_alphanumeric c || (c == 95)

-- the first character of the text passes the test; the empty text has none
abbrev pub first_is : (ℕ → Bool) → List ℕ → Bool
first_is test [] = false
first_is test (c ∷ cs) = test c

-- the text begins with these two characters
abbrev pub begins_pair : ℕ → ℕ → List ℕ → Bool
begins_pair a b [] = false
begins_pair a b (c ∷ []) = false
begins_pair a b (c ∷ d ∷ cs) = (c == a) && (d == b)

-- how many letters, digits and `_` a text begins with: of `ab_1-c` it is 4
abbrev pub word_size : List ℕ → ℕ
word_size text = prefix_len is_word text

-- how many digits a text begins with: of `12a3` it is 2
abbrev pub digits_size : List ℕ → ℕ
digits_size text = prefix_len is_ascii_digit text

-- the bytes of the pairs of hexadecimal digits that a text begins with: of `abcdeg` they are 4
abbrev pub hex_pairs_size : List ℕ → ℕ
hex_pairs_size text = 2 * (prefix_len is_ascii_hexdigit text / 2)
