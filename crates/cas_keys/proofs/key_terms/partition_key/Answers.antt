use Rattle.std.proofs.Common.{◌≡◌, [], ◌∷◌, sym, subst, ap, ◌∙◌}
use Rattle.std.specs.Option.{option_copied}
use Rattle.std.specs.List.{filter_map}
use Rattle.cas_types.specs.Keys.{key_of}
use Rattle.cas_terms.specs.Columns.{partition_columns}
use Rattle.cas_keys.specs.Inner.Sources.{terms_of, KeyGives}
use Rattle.cas_keys.specs.KeyTerms.{value_in, partition_key}
use Rattle.cas_keys.proofs.KeyLemmas.{sole_is}
use Rattle.cas_keys.proofs.key_terms.partition_key.Goals as goal

pub returns-in-Some : goal.returns-in-Some
unfolding partition_key
returns-in-Some c =
    let it : partition_columns c.args.columns.now ≡ c.in-Some.column.now ∷ [] = sole_is (partition_columns c.args.columns.now) c.in-Some.column.now (sym c.sole_column.ensures ∙ ap option_copied c.in-Some.is) in
    subst (λ cs. KeyGives c.key_of_column.result (key_of (filter_map (value_in (terms_of c.args.terms)) cs))) (sym it) c.key_of_column.ensures
