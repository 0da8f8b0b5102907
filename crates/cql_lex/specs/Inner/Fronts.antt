-- Fronts that are told at once.
use Rattle.std.specs.Prelude.{ℕ, Bool, ◌&&◌, nat_le, List, Option, None, Some, option_and_then, if◌then◌else◌}
use Rattle.std.specs.Char.{to_ascii_lowercase}
use Rattle.std.specs.Str.{is_utf8}
use Rattle.cql_lex.specs.Characters.{is_word}
use Rattle.cql_lex.specs.Quotes.{closed}

-- one of the marks ( ) * + , with which nothing longer begins
abbrev pub is_plain : ℕ → Bool
is_plain c = nat_le 40 c && nat_le c 44

-- the text that follows an opening quote, read up to its closing quote, where it is UTF-8
abbrev pub closed_text : ℕ → List ℕ → Option (List ℕ)
closed_text quote text = option_and_then (λ inner. if is_utf8 inner then Some inner else None) (closed quote text)

-- a letter, a digit or `_` as a small one, and 0 of any other byte
abbrev pub folded : ℕ → ℕ
folded c = if is_word c then to_ascii_lowercase c else 0
