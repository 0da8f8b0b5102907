-- What stands at the front of a text: the rules, in their order.
-- CQL documentation, "Definitions"; the order of the rules is own.
use Rattle.std.specs.Prelude.{ℕ, Bool, not, ◌==◌, ◌&&◌, ◌+◌, nat_lt, List, [], ◌∷◌, take, drop, Option, None, Some, option_map, is_some, if◌then◌else◌}
use Rattle.std.specs.Option.{option_or}
use Rattle.std.specs.Char.{is_ascii_digit, is_ascii_alphabetic}
use Rattle.cql_lex.specs.Characters.{is_word, first_is, begins_pair, word_size, digits_size, hex_pairs_size}
use Rattle.cql_lex.specs.Numbers.{is_negative, unsigned, number_value}
use Rattle.cql_lex.specs.Quotes.{name_quote, string_quote, closing_size}
use Rattle.cql_lex.specs.Constants.{uuid_value, begins_blob}
use Rattle.cql_lex.specs.Gaps.{gap_size}
use Rattle.cql_lex.specs.declared.piece.Piece.{Piece}
use Rattle.cql_lex.specs.declared.token.Mark.{Mark}
use Rattle.cql_lex.specs.declared.token.Mark.TheVariants as mark
use Rattle.cql_lex.specs.declared.token.TokenKind.{TokenKind}
use Rattle.cql_lex.specs.declared.token.TokenKind.TheVariants as kind

-- a token of a kind and of a size
abbrev pub token : TokenKind → ℕ → Piece
token k size = record { kind = Some k; size = size }

-- a blank or a comment of a size
abbrev pub gap : ℕ → Piece
gap size = record { kind = None; size = size }

-- a uuid, which no letter, digit or `_` follows: `550e8400-e29b-41d4-a716-446655440000,` begins as one, with an `x` in the comma's place it doesn't
abbrev pub begins_uuid : List ℕ → Bool
begins_uuid text = is_some (uuid_value (take 36 text)) && not (first_is is_word (drop 36 text))

-- a digit, perhaps after a `-`: `-1` and `1x`, and not `-a`
abbrev pub begins_number : List ℕ → Bool
begins_number text = first_is is_ascii_digit (unsigned text)

-- the `-` and the digits: of `-12.5` it is 3
abbrev pub whole_size : List ℕ → ℕ
whole_size text = (if is_negative text then 1 else 0) + digits_size (unsigned text)

-- a point and the one or two digits after it; 0 where there are none: of `.5` it is 2, of `.123` it is 3, of `.a` it is 0
abbrev pub fraction_size : List ℕ → ℕ
fraction_size [] = 0
fraction_size (p ∷ []) = 0
fraction_size (p ∷ d ∷ cs) =
    if (p == 46) && is_ascii_digit d then (if first_is is_ascii_digit cs then 3 else 2) else 0

-- a number of this whole part and fraction, unless a letter, digit or `_` follows or it is wider than 128 bits: `12,`
-- begins with a number, `1.5 ` with a ratio; `12a`, `1.234` and `1_` are refused
abbrev pub number_of_sizes : List ℕ → ℕ → ℕ → Option Piece
number_of_sizes text whole fraction =
    if first_is is_word (drop (whole + fraction) text) then None
    else if nat_lt 0 fraction then Some (token kind.Ratio (whole + fraction))
    else if is_some (number_value (take whole text)) then Some (token kind.Number whole)
    else None

-- the number or ratio that a text begins with, unless it is refused: `-12.5,` begins with a ratio of 5 bytes
abbrev pub number_at : List ℕ → Option Piece
number_at text = number_of_sizes text (whole_size text) (fraction_size (drop (whole_size text) text))

-- a text in quotes, up to the closing one: `'it''s' x` begins with a string of 7 bytes, `'a` is refused
abbrev pub quoted_at : TokenKind → ℕ → List ℕ → Option Piece
quoted_at k quote text = option_map (λ n. token k (1 + n)) (closing_size quote (drop 1 text))

-- the mark that a single character is, by its ASCII code: ( ) [ ] { } < > = , ; : . + - *
abbrev pub symbol : ℕ → Option Mark
symbol c =
    if c == 40 then Some mark.OpenParen
    else if c == 41 then Some mark.CloseParen
    else if c == 91 then Some mark.OpenBracket
    else if c == 93 then Some mark.CloseBracket
    else if c == 123 then Some mark.OpenBrace
    else if c == 125 then Some mark.CloseBrace
    else if c == 60 then Some mark.Less
    else if c == 62 then Some mark.Greater
    else if c == 61 then Some mark.Equals
    else if c == 44 then Some mark.Comma
    else if c == 59 then Some mark.Semicolon
    else if c == 58 then Some mark.Colon
    else if c == 46 then Some mark.Dot
    else if c == 43 then Some mark.Plus
    else if c == 45 then Some mark.Minus
    else if c == 42 then Some mark.Star
    else None

-- the token of one character that a text begins with: `(a` begins with OpenParen
abbrev pub single_at : List ℕ → Option Piece
single_at [] = None
single_at (c ∷ cs) = option_map (λ m. token (kind.Mark m) 1) (symbol c)

-- `<=` and `>=` before the single characters: `<=1` begins with AtMost, `<1` with Less
abbrev pub symbol_at : List ℕ → Option Piece
symbol_at text =
    if begins_pair 60 61 text then Some (token (kind.Mark mark.AtMost) 2)
    else if begins_pair 62 61 text then Some (token (kind.Mark mark.AtLeast) 2)
    else single_at text

-- the token that a text begins with: the first rule that it begins as decides, and may refuse it. `0x1F` is a blob,
-- `0y` is refused by the rule of numbers, `0-1` begins with a number
unfoldable pub token_at : List ℕ → Option Piece
token_at text =
    if begins_uuid text then Some (token kind.Uuid 36)
    else if begins_blob text then Some (token kind.Blob (2 + hex_pairs_size (drop 2 text)))
    else if begins_number text then number_at text
    else if first_is is_ascii_alphabetic text then Some (token kind.Name (word_size text))
    else if first_is (λ c. c == name_quote) text then quoted_at kind.QuotedName name_quote text
    else if first_is (λ c. c == string_quote) text then quoted_at kind.String string_quote text
    else symbol_at text

-- the blank, the comment or the token that a text begins with, in this order: `--1` is a comment, and no minus sign
unfoldable pub piece_at : List ℕ → Option Piece
piece_at text = option_or (option_map gap (gap_size text)) (token_at text)
