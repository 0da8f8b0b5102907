-- Where the code finds the terms that a statement gives its columns, and how it answers with a key.
use Rattle.std.specs.Prelude.{◌≡◌, ℕ, Bool, true, false, List, [], ◌∷◌, Option, None, Some, Result, Ok, Err}
use Rattle.cas_effects.specs.TooLarge.{too_large}
use Rattle.cas_effects.specs.declared.refusal.BindFault.{BindFault}
use Rattle.cas_effects.specs.declared.refusal.BindFault.TheVariants as fault
use Rattle.cas_keys.specs.KeyTerms.{TermOf, term_in_where, term_in_insert}
use Rattle.cas_keys.specs.declared.key_terms.KeyTerms.{KeyTerms}
use Rattle.cas_keys.specs.declared.key_terms.KeyTerms.TheVariants as key_terms

-- the terms that a WHERE, or the names and values of an INSERT, give
abbrev pub terms_of : KeyTerms → TermOf
terms_of (key_terms.Where rs) = term_in_where rs.now
terms_of (key_terms.Insert names terms) = term_in_insert names.now terms.now

-- the bytes of a key, unless memory ran out or the key is too large
abbrev pub KeyGives : Result (List ℕ) BindFault → List ℕ → Type 0
KeyGives (Ok k) key = k ≡ key
KeyGives (Err (fault.Refused r)) key = (others : List (List ℕ)) → too_large (key ∷ others) ≡ Some r
KeyGives (Err fault.Mem) key = Unit {0}

-- a value that is there, with bytes
abbrev pub has_bytes : Option (List ℕ) → Bool
has_bytes None = false
has_bytes (Some []) = false
has_bytes (Some (b ∷ bs)) = true
