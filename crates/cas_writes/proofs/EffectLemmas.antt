-- Effects of changes that are made of other things.
use Rattle.std.proofs.Common.{◌≡◌, ℕ, ◌+◌, ◌<◌, List, [], ◌∷◌, ◌++◌, length, take, get_or, map, Some, refl, ap, ◌∙◌, append_assoc}
use Rattle.std.specs.List.{flat_map, zip}
use Rattle.cas_types.specs.declared.schema.Column.{Column}
use Rattle.cas_keys.specs.KeyTerms.{TermOf, in_front, value_in, prefix_values}
use Rattle.cas_keys.specs.Keys.{sole_column}
use Rattle.cas_keys.proofs.KeyLemmas.{sole_is}
use Rattle.cql_parse.specs.declared.syntax.AlterTable.{AlterTable}
use Rattle.cql_parse.specs.declared.syntax.CreateTable.{CreateTable}
use Rattle.cql_parse.specs.declared.syntax.Delete.{Delete}
use Rattle.cql_parse.specs.declared.syntax.Insert.{Insert}
use Rattle.cql_parse.specs.declared.syntax.Select.{Select}
use Rattle.cql_parse.specs.declared.syntax.Statement.TheVariants as statement
use Rattle.cql_parse.specs.declared.syntax.Update.{Update}
use Rattle.cas_mentions.specs.Mentions.{assigns, deletes, inserted, changes_of}
use Rattle.cas_effects.proofs.Steps.{flat_map_step}

pub flat_map_map : {X Y Z : Type 0} (g : Y → List Z) (f : X → Y) (xs : List X) → flat_map g (map f xs) ≡ flat_map (λ x. g (f x)) xs
flat_map_map g f [] = refl
flat_map_map g f (x ∷ xs) = ap (λ l. g (f x) ++ l) (flat_map_map g f xs)

pub and_nothing : {X : Type 0} (xs : List X) → xs ≡ xs ++ []
and_nothing [] = refl
and_nothing (x ∷ xs) = ap (λ l. x ∷ l) (and_nothing xs)

-- ---- the values of clustering columns

-- of one column there is one value at most
pub sole_prefix : (terms : TermOf) (cs : List Column) (c : Column) → sole_column cs ≡ Some c → prefix_values terms cs ≡ in_front (value_in terms c) []
unfolding prefix_values
sole_prefix terms cs c e = ap (prefix_values terms) (sole_is cs c e)

-- ---- what a statement changes

pub inserted_changes : (i : Insert) → changes_of (statement.Insert i) ≡ map inserted (zip i.columns i.values)
unfolding changes_of
inserted_changes i = refl

pub updated_changes : (u : Update) → changes_of (statement.Update u) ≡ map (λ a. (a.column, assigns a.value)) u.assignments
unfolding changes_of
updated_changes u = refl

pub deleted_changes : (d : Delete) → changes_of (statement.Delete d) ≡ map (λ t. (t.column, deletes t.key)) d.targets
unfolding changes_of
deleted_changes d = refl

pub created_changes : (c : CreateTable) → changes_of (statement.Create c) ≡ []
unfolding changes_of
created_changes c = refl

pub altered_changes : (a : AlterTable) → changes_of (statement.Alter a) ≡ []
unfolding changes_of
altered_changes a = refl

pub selected_changes : (s : Select) → changes_of (statement.Select s) ≡ []
unfolding changes_of
selected_changes s = refl

pub ruleset changed_steps = (flat_map_map, and_nothing, inserted_changes, updated_changes, deleted_changes, created_changes, altered_changes, selected_changes)

-- one more item is put after what those before it came to
pub pushed_step : {X Y : Type 0} (f : X → List Y) (first : List Y) (A : List X) (i : ℕ) (x : X) (before after : List Y) → i < length A → x ≡ get_or A i x
    → before ≡ first ++ flat_map f (take i A) → after ≡ before ++ f x → after ≡ first ++ flat_map f (take (i + 1) A)
pushed_step f first A i x before after h e b a =
    a ∙ ap (λ l. l ++ f x) b ∙ append_assoc first (flat_map f (take i A)) (f x)
    ∙ ap (λ l. first ++ l) (flat_map_step f A i x (flat_map f (take i A)) (flat_map f (take i A) ++ f x) h e refl refl)
