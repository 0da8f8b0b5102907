-- A row that goes on with a further place.
use Rattle.std.proofs.Common.{◌≡◌, ℕ, true, ◌==◌, nat_lt, cond, Option, Some, List, [], ◌∷◌, ◌++◌, refl, sym, ap, ◌∙◌}
use Rattle.std.specs.FinMap.Entries.{by_order}
use Rattle.std.specs.declared.cmp.Ordering.TheVariants.{Less, Equal, Greater}
use Rattle.cas_cell.proofs.OrderLaws.{deletion_laws, live_laws}
use Rattle.cas_bounds.specs.declared.map_key.MapKey.{MapKey}
use Rattle.cas_atoms.specs.declared.row.Row.{Row}
use Rattle.cas_atoms.specs.declared.row.RowColumn.{RowColumn}
use Rattle.cas_atoms.proofs.GreatestLemmas.{greater_none}
use Rattle.cas_streams.specs.Joined.{joined_column, joined_columns, joined_fragment}
use Rattle.cas_streams.specs.declared.fragment.Fragment.{Fragment}
use Rattle.cas_streams.specs.declared.fragment.Fragment.TheVariants as fragment
use Rattle.cas_partition.specs.Spots.{column_at, piece}
use Rattle.cas_partition.specs.Inner.Pieces.{further, are_below}
use Rattle.cas_partition.specs.declared.spot.Content.{Content}
use Rattle.cas_partition.proofs.Taking.{both_true}

-- a column above all others comes last
pub appended : (cs : List RowColumn) (c : RowColumn) → are_below cs c.column.number ≡ true → joined_columns cs (c ∷ []) ≡ cs ++ c ∷ []
appended [] c below = refl
appended (d ∷ cs) c below =
    let (first, others) = both_true (nat_lt d.column.number c.column.number) (are_below cs c.column.number) below in
    ap (λ b. by_order (cond b Less (cond (d.column.number == c.column.number) Equal Greater)) (d ∷ joined_columns cs (c ∷ []))
    (joined_column d c ∷ joined_columns cs []) (c ∷ d ∷ joined_columns cs [])) first ∙ ap (λ l. d ∷ l) (appended cs c others)

-- a row with a further column, or cell of it
pub goes_on : (r : Row) (column : Option ℕ) (path : Option (List ℕ)) (c : Content) (n : ℕ) (columns : List RowColumn) → column ≡ Some n
    → are_below r.columns n ≡ true → columns ≡ r.columns ++ column_at n path c ∷ []
    → fragment.Row (record { clustering = r.clustering; deletion = r.deletion; live = r.live; columns = columns }) ≡ joined_fragment (fragment.Row r) (further column path c)
goes_on r column path c n columns is below are =
    (λ i. fragment.Row (record {
      clustering = r.clustering;
      deletion = sym (greater_none deletion_laws.orders r.deletion) i;
      live = sym (greater_none live_laws.orders r.live) i;
      columns = (are ∙ sym (appended r.columns (column_at n path c) below)) i;
    }))
    ∙ ap (λ col. joined_fragment (fragment.Row r) (further col path c)) (sym is)

-- it doesn't matter where the piece stands
pub anywhere : (f : Fragment) (key : MapKey) (column : Option ℕ) (path : Option (List ℕ)) (c : Content) → joined_fragment f (further column path c) ≡ joined_fragment f (piece (Some key) column path c)
anywhere (fragment.Static cs) key column path c = refl
anywhere (fragment.Row r) key column path c = refl
anywhere (fragment.Marker cut d) key column path c = refl
