-- Tests of all names that a statement uses, from tests of its parts.
use Rattle.std.proofs.Common.{◌≡◌, ℕ, Bool, true, false, ◌||◌, List, [], ◌∷◌, ◌++◌, map, Option, None, Some, refl, ap, ◌∙◌}
use Rattle.std.specs.List.{list_any, flat_map}
use Rattle.std.specs.Option.{option_map_or, option_to_list}
use Rattle.std.proofs.lemmas.List.Folds.{list_any-append}
use Rattle.cql_parse.specs.declared.syntax.Assignment.{Assignment}
use Rattle.cql_parse.specs.declared.syntax.Update.{Update}
use Rattle.cql_parse.specs.declared.syntax.Delete.{Delete}
use Rattle.cql_parse.specs.declared.syntax.Select.{Select}
use Rattle.cql_parse.specs.declared.syntax.Statement.TheVariants as statement
use Rattle.cas_reasons.specs.Statements.{picks_in, other_name, assignment_names, picked_name, names_used}
pub use Rattle.cas_mentions.proofs.Used.{any_map, any_term}

pub or_true_between : (a b : Bool) → (a || (true || b)) ≡ true
or_true_between true b = refl
or_true_between false b = refl

module _ {X Y : Type 0} (p : Y → Bool) (f : X → List Y) where
  pub any_flat_map : (xs : List X) → list_any p (flat_map f xs) ≡ list_any (λ x. list_any p (f x)) xs
  any_flat_map [] = refl
  any_flat_map (x ∷ xs) = list_any-append p (f x) (flat_map f xs) ∙ ap (λ b. list_any p (f x) || b) (any_flat_map xs)

or_false : (b : Bool) → (b || false) ≡ b
or_false true = refl
or_false false = refl

module _ (p : List ℕ → Bool) where
  one_at_most : (o : Option (List ℕ)) → list_any p (option_to_list o) ≡ option_map_or p o false
  one_at_most None = refl
  one_at_most (Some n) = or_false (p n)

  pub any_of_assignment : (a : Assignment) → list_any p (assignment_names a) ≡ (p a.column || option_map_or p (other_name a.value) false)
  any_of_assignment a = ap (λ b. p a.column || b) (one_at_most (other_name a.value))

  pub any_in_update : (u : Update) → list_any p (names_used (statement.Update u)) ≡ (list_any (λ a. list_any p (assignment_names a)) u.assignments || list_any (λ r. p r.column) u.relations)
  unfolding names_used
  any_in_update u =
      list_any-append p (flat_map assignment_names u.assignments) (map (λ r. r.column) u.relations)
      ∙ (λ j. any_flat_map p assignment_names u.assignments j || any_map p (λ r. r.column) u.relations j)

  pub any_in_delete : (d : Delete) → list_any p (names_used (statement.Delete d)) ≡ (list_any (λ t. p t.column) d.targets || list_any (λ r. p r.column) d.relations)
  unfolding names_used
  any_in_delete d =
      list_any-append p (map (λ t. t.column) d.targets) (map (λ r. r.column) d.relations)
      ∙ (λ j. any_map p (λ t. t.column) d.targets j || any_map p (λ r. r.column) d.relations j)

  pub any_in_select : (s : Select) → list_any p (names_used (statement.Select s))
      ≡ (list_any (λ k. p (picked_name k)) (picks_in s.picks) || (list_any (λ r. p r.column) s.relations || list_any (λ o. p o.name) s.order))
  unfolding names_used
  any_in_select s =
      list_any-append p (map picked_name (picks_in s.picks)) (map (λ r. r.column) s.relations ++ map (λ o. o.name) s.order)
      ∙ ap (λ b. list_any p (map picked_name (picks_in s.picks)) || b) (list_any-append p (map (λ r. r.column) s.relations) (map (λ o. o.name) s.order))
      ∙ (λ j. any_map p picked_name (picks_in s.picks) j || (any_map p (λ r. r.column) s.relations j || any_map p (λ o. o.name) s.order j))
