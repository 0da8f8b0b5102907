-- Changes that are made twice, and what an INSERT gives a column.
use Rattle.std.proofs.Common.{◌≡◌, ℕ, ◌==◌, Bool, true, false, ◌||◌, ◌&&◌, not, List, [], ◌∷◌, map, length, refl, arith}
use Rattle.std.specs.List.{list_any, zip}
use Rattle.std.specs.Str.{bytes_eq}
use Rattle.std.proofs.lemmas.Bool.Decides.{nat_tests}
use Rattle.cas_types.specs.declared.schema.Column.{Column}
use Rattle.cas_terms.specs.Names.{any_two, stands_twice}
use Rattle.cas_terms.specs.Terms.{term_fits, assigned_fits}
use Rattle.cql_parse.specs.declared.term.Term.{Term}
use Rattle.cql_parse.specs.declared.syntax.Assigned.TheVariants as assigned
use Rattle.cql_parse.specs.declared.syntax.Insert.{Insert}
use Rattle.cql_parse.specs.declared.syntax.Statement.TheVariants as statement
use Rattle.cas_mentions.specs.ColumnFaults.{change_the_same, changes_twice, names_map, has_other_count, entry_key}
use Rattle.cas_mentions.specs.Mentions.{inserted}
use Rattle.cas_mentions.proofs.Used.{any_map}

pub whole_fits : (c : Column) (t : Term) → assigned_fits c (assigned.Whole t) ≡ term_fits c t
unfolding assigned_fits
whole_fits c t = refl

-- ---- two of a list that is made of another

module _ {X Y : Type 0} (test : Y → Y → Bool) (f : X → Y) where
  pub two_mapped : (xs : List X) → any_two test (map f xs) ≡ any_two (λ a b. test (f a) (f b)) xs
  two_mapped [] = refl
  two_mapped (x ∷ xs) = λ j. any_map (test (f x)) f xs j || two_mapped xs j

-- ---- of an INSERT only the columns' names count

by_name : (b m : Bool) → (b && not (m && false)) ≡ b
by_name true true = refl
by_name true false = refl
by_name false m = refl

module _ (cs : List Column) where
  same_as_names : (n m : List ℕ) (t u : Term) → change_the_same cs (inserted (n, t)) (inserted (m, u)) ≡ bytes_eq n m
  unfolding change_the_same entry_key
  same_as_names n m t u = by_name (bytes_eq n m) (names_map cs n)

  again : (n : List ℕ) (t : Term) (ns : List (List ℕ)) (ts : List Term) → length ns ≡ length ts
      → list_any (change_the_same cs (inserted (n, t))) (map inserted (zip ns ts)) ≡ list_any (bytes_eq n) ns
  again n t [] ts e = refl
  again n t (m ∷ ns) [] e = absurd (omega arith)
  again n t (m ∷ ns) (u ∷ ts) e = λ j. same_as_names n m t u j || again n t ns ts (omega arith) j

  pub twice_inserted : (ns : List (List ℕ)) (ts : List Term) → length ns ≡ length ts → changes_twice cs (map inserted (zip ns ts)) ≡ stands_twice ns
  twice_inserted [] ts e = refl
  twice_inserted (n ∷ ns) [] e = absurd (omega arith)
  twice_inserted (n ∷ ns) (t ∷ ts) e = λ j. again n t ns ts (omega arith) j || twice_inserted ns ts (omega arith) j

  as_many : (b : Bool) → not b ≡ false → b ≡ true
  as_many true e = refl
  as_many false e = cc

  pub two_inserted : (i : Insert) → has_other_count (statement.Insert i) ≡ false → changes_twice cs (map inserted (zip i.columns i.values)) ≡ stands_twice i.columns
  unfolding has_other_count
  two_inserted i e =
      let counts : (length i.columns == length i.values) ≡ true = as_many _ e in
      let same : length i.columns ≡ length i.values = grind (arith, nat_tests) in
      twice_inserted i.columns i.values same
