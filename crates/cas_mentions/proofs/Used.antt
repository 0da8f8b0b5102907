-- A test of all that a statement says of columns, from tests of its parts.
use Rattle.std.proofs.Common.{◌≡◌, ℕ, Bool, ◌||◌, List, [], ◌∷◌, ◌++◌, map, refl, ap, ◌∙◌}
use Rattle.std.specs.List.{list_any}
use Rattle.std.proofs.lemmas.List.Folds.{list_any-append}
use Rattle.cql_parse.specs.declared.syntax.Statement.{Statement}
use Rattle.cas_mentions.specs.Mentions.{Mention, changes, compares, shows, relations_of, changes_of, shown_by, picked_name, terms_used}

module _ {X Y : Type 0} (p : Y → Bool) (f : X → Y) where
  pub any_map : (xs : List X) → list_any p (map f xs) ≡ list_any (λ x. p (f x)) xs
  any_map [] = refl
  any_map (x ∷ xs) = ap (λ b. p (f x) || b) (any_map xs)

module _ (p : List ℕ × Mention → Bool) where
  pub any_term : (s : Statement) → list_any p (terms_used s)
      ≡ (list_any (λ q. p (q.0, changes q.1)) (changes_of s) || (list_any (λ r. p (r.column, compares r.value)) (relations_of s) || list_any (λ k. p (picked_name k, shows k)) (shown_by s)))
  unfolding terms_used
  any_term s =
      list_any-append p (map (λ q. (q.0, changes q.1)) (changes_of s)) (map (λ r. (r.column, compares r.value)) (relations_of s) ++ map (λ k. (picked_name k, shows k)) (shown_by s))
      ∙ ap (λ b. list_any p (map (λ q. (q.0, changes q.1)) (changes_of s)) || b)
      (list_any-append p (map (λ r. (r.column, compares r.value)) (relations_of s)) (map (λ k. (picked_name k, shows k)) (shown_by s)))
      ∙ (λ j. any_map p (λ q. (q.0, changes q.1)) (changes_of s) j
      || (any_map p (λ r. (r.column, compares r.value)) (relations_of s) j || any_map p (λ k. (picked_name k, shows k)) (shown_by s) j))
