-- What a row shows of a partition key that one column makes.
use Rattle.std.proofs.Common.{◌≡◌, ℕ, ◌+◌, ℤ, true, false, cond, ◌&&◌, Some, List, [], ◌∷◌, slice_get, refl, sym, ap, ◌∙◌, arith}
use Rattle.std.proofs.lemmas.Bool.{true≢false, and_parts, not-true}
use Rattle.std.specs.Bool.{then_some}
use Rattle.std.specs.List.{count_by, fold}
use Rattle.cas_types.specs.Schemas.{is_partition}
use Rattle.cas_types.specs.declared.tag.TypeTag.{TypeTag}
use Rattle.cas_types.specs.declared.schema.Column.{Column}
use Rattle.cas_types.specs.declared.schema.Kind.{Kind}
use Rattle.cas_types.specs.declared.schema.Kind.TheVariants.{Partition, Ascending, Descending, Static, Regular}
use Rattle.cas_atoms.specs.Coordinates.{clustered}
use Rattle.cas_atoms.specs.PartitionKeys.{key_values}
use Rattle.cas_atoms.specs.Picks.{one_or_null, value_by_kind, column_value, picked}
use Rattle.cas_atoms.specs.declared.atom.Atom.{Atom}
use Rattle.cas_atoms.specs.declared.query.Datum.TheVariants as datum
use Rattle.cas_atoms.specs.declared.query.Pick.TheVariants.{Value}
use Rattle.cas_atoms.specs.declared.query.Query.{Query}
use Rattle.cas_laws.proofs.GreatestProofs.{no_none}
use Rattle.cas_live.specs.Inner.OwnRow.{is_beside_key, none_of_key, key_type}

-- a count that begins with some, of columns of which none counts
count_on : (n : ℕ) (cs : List Column) → none_of_key cs ≡ true → fold (λ a x. a + cond (is_partition x.kind) 1 0) n cs ≡ n
count_on n [] e = refl
count_on n (c ∷ cs) e =
    let (first, others) = and_parts (is_beside_key c) (none_of_key cs) e in
    ap (λ b. fold (λ a x. a + cond (is_partition x.kind) 1 0) (n + cond b 1 0) cs) (not-true (is_partition c.kind) first)
    ∙ ap (λ m. fold (λ a x. a + cond (is_partition x.kind) 1 0) m cs) (omega arith)
    ∙ count_on n cs others

alone : (c : Column) (cs : List Column) → is_partition c.kind ≡ true → none_of_key cs ≡ true → count_by (λ c. is_partition c.kind) (c ∷ cs) ≡ 1
alone c cs is none =
    ap (λ b. fold (λ a x. a + cond (is_partition x.kind) 1 0) (0 + cond b 1 0) cs) is
    ∙ count_on 1 cs none

module _ (q : Query) (all : List Atom) (now : ℤ) (r : List (List ℕ)) where
  by_kind : (column : Column) (k : Kind) → k ≡ column.kind → is_partition k ≡ true → count_by (λ c. is_partition c.kind) q.columns ≡ 1
      → value_by_kind k q all now (clustered r) 0 column ≡ datum.One column.tag q.key
  by_kind column Partition _ e one = ap (λ n. one_or_null column.tag (slice_get (key_values n q.key) 0)) one
  by_kind column Ascending _ e one = absurd (true≢false (sym e))
  by_kind column Descending _ e one = absurd (true≢false (sym e))
  by_kind column Static _ e one = absurd (true≢false (sym e))
  by_kind column Regular _ e one = absurd (true≢false (sym e))

  of_columns : (cs : List Column) → cs ≡ q.columns → (tag : TypeTag) → key_type cs ≡ Some tag → picked q all now (clustered r) (Value 0) ≡ datum.One tag q.key
  unfolding picked
  of_columns [] is tag e = no_none tag e
  of_columns (c ∷ cs) is tag e =
      elim (is_partition c.kind && none_of_key cs) as (λ b. (is_partition c.kind && none_of_key cs) ≡ b → then_some b c.tag ≡ Some tag → picked q all now (clustered r) (Value 0) ≡ datum.One tag q.key) [
        | true ↦ λ both same.
            let (first, others) = and_parts (is_partition c.kind) (none_of_key cs) both in
            ap (λ l. column_value q all now (clustered r) 0 (slice_get l 0)) (sym is)
            ∙ by_kind c c.kind refl first (ap (count_by (λ c. is_partition c.kind)) (sym is) ∙ alone c cs first others)
            ∙ (let same_tag : c.tag ≡ tag = cc in ap (λ t. datum.One t q.key) same_tag)
        | false ↦ λ _ none. no_none tag none
      ] refl e

pub key_picked : (q : Query) (all : List Atom) (now : ℤ) (r : List (List ℕ)) (tag : TypeTag) → key_type q.columns ≡ Some tag → picked q all now (clustered r) (Value 0) ≡ datum.One tag q.key
key_picked q all now r tag e = of_columns q all now r q.columns refl tag e
