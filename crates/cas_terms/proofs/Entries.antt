-- An entry is there where its key and its value are.
use Rattle.std.proofs.Common.{◌≡◌, ℕ, ◌&&◌, List, Option, None, Some, is_some, refl}
use Rattle.cas_terms.specs.Terms.{entry_from}

pub has_both : (k v : Option (List ℕ)) → is_some (entry_from k v) ≡ (is_some k && is_some v)
has_both None v = refl
has_both (Some k) None = refl
has_both (Some k) (Some v) = refl
