-- What a plain INSERT comes to.
use Rattle.std.proofs.Common.{◌≡◌, ℕ, true, false, List, ◌++◌, map, Some, refl, ap, ◌∙◌}
use Rattle.std.specs.List.{flat_map, zip}
use Rattle.std.specs.Option.{option_map_or}
use Rattle.cas_types.specs.declared.schema.Column.{Column}
use Rattle.cas_keys.specs.KeyTerms.{term_in_insert}
use Rattle.cas_terms.specs.Columns.{located}
use Rattle.cas_terms.specs.Terms.{term_fits}
use Rattle.cql_parse.specs.declared.syntax.Insert.{Insert}
use Rattle.cql_parse.specs.declared.syntax.Statement.TheVariants as statement
use Rattle.cql_parse.specs.declared.term.Term.{Term}
use Rattle.cas_mentions.specs.Mentions.{inserted, changes_of}
use Rattle.cas_reasons.specs.Extents.{inserts_static}
use Rattle.cas_reasons.specs.Inner.PlainInserts.{fits_named}
use Rattle.cas_reasons.specs.Statements.{key_terms_of}
use Rattle.cas_writes.specs.Changes.{change_effects, clustered_row, live_effect, row_effects, effects_of}
use Rattle.cas_writes.proofs.FitChanges.{is_there}
pub use Rattle.cas_reasons.proofs.PlainInserts.{plain_is_done}

pub fits_there : (cs : List Column) (n : List ℕ) (t : Term) (l : ℕ × Column) → located cs n ≡ Some l → term_fits l.1 t ≡ true → fits_named cs n t ≡ true
fits_there cs n t l e f = ap (λ o. option_map_or (λ c. term_fits c t) o false) (is_there cs n l e).1 ∙ f

pub insert_terms : (i : Insert) → key_terms_of (statement.Insert i) ≡ term_in_insert i.columns i.values
unfolding key_terms_of
insert_terms i = refl

-- the row lives, unless it is the static one, and each name's column is given its value
pub inserted_effects : (cs : List Column) (i : Insert) → effects_of cs (statement.Insert i)
    ≡ live_effect (inserts_static cs i.columns) (clustered_row (term_in_insert i.columns i.values) cs)
    ++ flat_map (change_effects cs (clustered_row (term_in_insert i.columns i.values) cs)) (map inserted (zip i.columns i.values))
unfolding effects_of row_effects changes_of key_terms_of
inserted_effects cs i = refl
