-- Whole numbers and ratios, as texts and as values.
-- CQL documentation, "Definitions: constants" (integer, float); the width and the hundredths are own.
use Rattle.std.specs.Prelude.{ℕ, Bool, true, false, ◌==◌, ◌&&◌, ◌+◌, ◌-◌, ◌*◌, ◌^◌, nat_lt, nat_le, min, List, [], ◌∷◌, ◌++◌, length, take, drop, fold}
use Rattle.std.specs.Prelude.{Option, None, Some, option_map, is_some, ℤ, pos, neg_ℤ, if◌then◌else◌}
use Rattle.std.specs.List.{list_all}
use Rattle.std.specs.Char.{is_ascii_digit}
use Rattle.cql_lex.specs.Characters.{first_is, digits_size}

-- the text begins with `-`, as `-1` does
abbrev pub is_negative : List ℕ → Bool
is_negative text = first_is (λ c. c == 45) text

-- what follows the `-`, where there is one: of `-12` it is `12`
abbrev pub unsigned : List ℕ → List ℕ
unsigned text = if is_negative text then drop 1 text else text

-- the number that digits write in base ten: `120` is 120
abbrev pub decimal_value : List ℕ → ℕ
decimal_value digits = fold (λ n c. n * 10 + (c - 48)) 0 digits

-- a number with its sign, where it is from -2^127 to 2^127 - 1
abbrev pub signed : Bool → ℕ → Option ℤ
signed true n = if nat_le n (2 ^ 127) then Some (neg_ℤ (pos n)) else None
signed false n = if nat_lt n (2 ^ 127) then Some (pos n) else None

-- one digit or more, and nothing else
abbrev pub is_digits : List ℕ → Bool
is_digits text = nat_lt 0 (length text) && list_all is_ascii_digit text

-- a `-` or none, and digits: `-12` is -12; `+12`, `1_2`, `-` and what doesn't fit 128 bits are no number
abbrev pub number_value : List ℕ → Option ℤ
number_value text =
    if is_digits (unsigned text) then signed (is_negative text) (decimal_value (unsigned text)) else None

-- a point and one or two digits, as two digits: `.5` is `50`, `.05` is `05`
abbrev pub hundredths : List ℕ → Option (List ℕ)
hundredths [] = None
hundredths (p ∷ []) = None
hundredths (p ∷ d ∷ []) = if (p == 46) && is_ascii_digit d then Some (d ∷ 48 ∷ []) else None
hundredths (p ∷ d ∷ e ∷ []) = if (p == 46) && (is_ascii_digit d && is_ascii_digit e) then Some (d ∷ e ∷ []) else None
hundredths (p ∷ d ∷ e ∷ f ∷ cs) = None

-- the digits of a text that has no sign, with the point left out and two digits after it: `1.5` gives `150`
abbrev pub ratio_digits : List ℕ → Option (List ℕ)
ratio_digits text =
    if nat_lt 0 (digits_size text)
    then option_map (λ after. take (digits_size text) text ++ after) (hundredths (drop (digits_size text) text))
    else None

-- a `-` or none, digits, a point, and one or two digits: `-1.5`; `1.`, `.5` and `1.234` are no ratios
abbrev pub is_ratio : List ℕ → Bool
is_ratio text = is_some (ratio_digits (unsigned text))

-- the number from -2^127 to 2^127 - 1 that is nearest to this one with its sign
abbrev pub nearest : Bool → ℕ → ℤ
nearest true n = neg_ℤ (pos (min n (2 ^ 127)))
nearest false n = pos (min n (2 ^ 127 - 1))

-- a ratio in whole hundredths: `-1.5` is -150; one that is wider than 128 bits is the nearest that isn't, which is far outside the range of any option
abbrev pub ratio_value : List ℕ → Option ℤ
ratio_value text = option_map (λ digits. nearest (is_negative text) (decimal_value digits)) (ratio_digits (unsigned text))
