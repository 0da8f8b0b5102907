-- Where the letters of a name stand.
use Rattle.std.specs.Prelude.{ℕ, List}
use Rattle.cql_lex.specs.declared.names.Letters.{Letters}
use Rattle.cql_lex.specs.declared.names.Letters.TheVariants.{Here, Apart}

-- the letters, in place or apart
abbrev pub letters_of : Letters → List ℕ
letters_of (Here few) = few
letters_of (Apart letters) = letters.items
