-- Blanks and comments, which stand between tokens.
-- CQL documentation, "Definitions: comments".
use Rattle.std.specs.Prelude.{ℕ, ◌==◌, ◌&&◌, ◌||◌, ◌+◌, Bool, List, [], ◌∷◌, length, drop, Option, None, Some, option_map, if◌then◌else◌}
use Rattle.cql_lex.specs.Characters.{first_is, begins_pair}

-- a space or a tab
abbrev pub is_blank : ℕ → Bool
is_blank c = (c == 32) || (c == 9)

-- how many bytes there are up to the end of the first `*/`: of `a*/b` there are 3
abbrev pub close_size : List ℕ → Option ℕ
close_size [] = None
close_size (c ∷ []) = None
close_size (c ∷ d ∷ cs) = if (c == 42) && (d == 47) then Some 2 else option_map (λ n. 1 + n) (close_size (d ∷ cs))

-- the size of the blank or the comment that a text begins with: a comment from `--` or `//` goes to the
-- line's end, one from `/*` to the first `*/` after it, without which it is none: of `-- a` it is 4, of
-- `/* a */b` it is 7, and `/*/` begins with none
abbrev pub gap_size : List ℕ → Option ℕ
gap_size text =
    if first_is is_blank text then Some 1
    else if begins_pair 45 45 text || begins_pair 47 47 text then Some (length text)
    else if begins_pair 47 42 text then option_map (λ n. 2 + n) (close_size (drop 2 text))
    else None
