-- What is kept of the atoms that a table may hold is said of the table's columns.
use Rattle.std.proofs.Common.{◌≡◌, ℕ, true, false, cond, Option, None, Some, List, [], ◌∷◌, refl, ap, subst}
use Rattle.std.proofs.lemmas.Option.{none-some}
use Rattle.std.specs.Option.{unwrap_or}
use Rattle.std.specs.Cmp.{Equal-is}
use Rattle.std.specs.Map.{lookup, set_value}
use Rattle.std.specs.BTreeMap.{insert_entry, is_at}
use Rattle.std.specs.declared.cmp.Ordering.TheVariants.{Less, Equal, Greater}
use Rattle.std.specs.Ordering.{is_eq, match_ordering}
use Rattle.cas_types.specs.declared.tag.TypeTag.{TypeTag}
use Rattle.cas_types.specs.declared.schema.Column.{Column}
use Rattle.cas_cell.specs.Deletions.{deletion_cmp}
use Rattle.cas_bounds.specs.ClusteringOrder.{clustering_order}
use Rattle.cas_bounds.specs.declared.map_key.MapKey.{MapKey}
use Rattle.cas_atoms.specs.Greatest.{greater}
use Rattle.cas_atoms.specs.Fits.{Fits}
use Rattle.cas_atoms.specs.declared.atom.Atom.{Atom}
use Rattle.cas_atoms.specs.declared.atom.Atom.TheVariants.{PartitionDeletion, RangeDeletion, RowDeletion, CollectionDeletion, Live, Write, StaticWrite, StaticCollectionDeletion}
use Rattle.cas_partition.specs.Spots.{spot_cmp, blank, joined_content}
use Rattle.cas_partition.specs.Placed.{wanted, given}
use Rattle.cas_partition.specs.Partitions.{IsAtomOf, AreAtomsOf, AllFit, IsPathOf, IsIn, AreIn, has_spot, with_spot}
use Rattle.cas_partition.specs.declared.spot.Spot.{Spot}
use Rattle.cas_partition.specs.declared.spot.Content.{Content}
use Rattle.cas_partition.specs.declared.spot.Room.{Room}
use Rattle.cas_partition.specs.declared.spot.Room.TheVariants as wants
use Rattle.cas_partition.specs.declared.spot.Addition.{Addition}
use Rattle.cas_partition.specs.declared.spot.Addition.TheVariants as gives
use Rattle.cas_partition.proofs.Saying.{spot_ties}

abbrev Entries : Type 0
Entries = List (Spot × Content)

-- ---- atoms

module _ (columns : List Column) where
  -- what the table may hold is in its order
  pub fits_of : (a : Atom) → Fits columns a → IsAtomOf (clustering_order columns) a
  fits_of (PartitionDeletion d) f = tt
  fits_of (RangeDeletion lo hi d) f = (f.0.0.0, f.0.1.0, f.0.2)
  fits_of (RowDeletion c d) f = f.0.0
  fits_of (CollectionDeletion c ref d) f = f.0.0
  fits_of (Live c l) f = f.0.0
  fits_of (Write c ref p v) f = f.0.0
  fits_of (StaticWrite ref p v) f = tt
  fits_of (StaticCollectionDeletion ref d) f = tt

  pub all_fit_of : (atoms : List Atom) → AllFit columns atoms → AreAtomsOf (clustering_order columns) atoms
  all_fit_of [] all = tt
  all_fit_of (a ∷ atoms) all = (fits_of a all.0, all_fit_of atoms all.1)

  AtRoom : Room → Type 0
  AtRoom wants.Whole = Unit {0}
  AtRoom (wants.Cuts lo hi) = Unit {0}
  AtRoom (wants.At s tag) = IsIn columns s.row s.column s.path (blank tag)

  room_in : (a : Atom) → Fits columns a → AtRoom (wanted a)
  unfolding AtRoom
  room_in (PartitionDeletion d) f = tt
  room_in (RangeDeletion lo hi d) f = tt
  room_in (RowDeletion c d) f = tt
  room_in (CollectionDeletion c ref d) f = record { column = f.1.column; named = f.1.named; kind = f.1.kind; at = f.1.collection }
  room_in (Live c l) f = tt
  room_in (Write c ref p v) f = record { column = f.1.column; named = f.1.named; kind = f.1.kind; at = (f.1.path.1, refl) }
  room_in (StaticWrite ref p v) f = record { column = f.column; named = f.named; kind = f.kind; at = (f.path.1, refl) }
  room_in (StaticCollectionDeletion ref d) f = record { column = f.0.column; named = f.0.named; kind = f.0.kind; at = f.0.collection }

  -- so is the place that is made for it
  pub wanted_in : (a : Atom) (s : Spot) (tag : Option TypeTag) → wanted a ≡ wants.At s tag → Fits columns a → IsIn columns s.row s.column s.path (blank tag)
  unfolding AtRoom
  wanted_in a s tag w f = subst AtRoom w (room_in a f)

  AtAddition : Addition → Type 0
  AtAddition (gives.Whole d) = Unit {0}
  AtAddition (gives.Range lo hi d) = Unit {0}
  AtAddition (gives.At s c) = IsIn columns s.row s.column s.path c

  addition_in : (a : Atom) → Fits columns a → AtAddition (given a)
  unfolding AtAddition
  addition_in (PartitionDeletion d) f = tt
  addition_in (RangeDeletion lo hi d) f = tt
  addition_in (RowDeletion c d) f = tt
  addition_in (CollectionDeletion c ref d) f = record { column = f.1.column; named = f.1.named; kind = f.1.kind; at = f.1.collection }
  addition_in (Live c l) f = tt
  addition_in (Write c ref p v) f = record { column = f.1.column; named = f.1.named; kind = f.1.kind; at = (f.1.path.1, refl) }
  addition_in (StaticWrite ref p v) f = record { column = f.column; named = f.named; kind = f.kind; at = (f.path.1, refl) }
  addition_in (StaticCollectionDeletion ref d) f = record { column = f.0.column; named = f.0.named; kind = f.0.kind; at = f.0.collection }

  -- and what is added there
  pub given_in : (a : Atom) (s : Spot) (c : Content) → given a ≡ gives.At s c → Fits columns a → IsIn columns s.row s.column s.path c
  unfolding AtAddition
  given_in a s c g f = subst AtAddition g (addition_in a f)

  -- ---- entries

  join_in : (row : Option MapKey) (column : Option ℕ) (path : Option (List ℕ)) (a b : Content) → IsIn columns row column path a → IsIn columns row column path b
      → IsIn columns row column path (joined_content a b)
  join_in row None path a b i j = tt
  join_in row (Some n) path a b i j = record { column = i.column; named = i.named; kind = i.kind; at = paths path i.at j.at }
    where
      paths : (q : Option (List ℕ)) → IsPathOf i.column q a → IsPathOf j.column q b → IsPathOf i.column q (joined_content a b)
      paths None x y = x
      paths (Some p) x y = (x.0, (λ k. greater deletion_cmp (x.1 k) (y.1 k)))

  at_spot : (s t : Spot) (c : Content) → is_eq (spot_cmp s t) ≡ true → IsIn columns s.row s.column s.path c → IsIn columns t.row t.column t.path c
  at_spot s t c hit i = subst (λ u. IsIn columns u.row u.column u.path c) (spot_ties s t ((Equal-is (spot_cmp s t)).0 hit)) i

  pub set_in : (s : Spot) (c new : Content) (es : Entries) → lookup (is_at (spot_cmp s)) es ≡ Some c → IsIn columns s.row s.column s.path new → AreIn columns es
      → AreIn columns (set_value (is_at (spot_cmp s)) es (joined_content c new))
  set_in s c new [] there i all = absurd (none-some c there)
  set_in s c new (e ∷ es) there i all =
      elim (is_eq (spot_cmp s e.0)) as (λ b. is_eq (spot_cmp s e.0) ≡ b → cond b (Some e.1) (lookup (is_at (spot_cmp s)) es) ≡ Some c
      → AreIn columns (cond b ((e.0, joined_content c new) ∷ es) (e ∷ set_value (is_at (spot_cmp s)) es (joined_content c new)))) [
        | true ↦ λ hit h. (
          join_in e.0.row e.0.column e.0.path c new (subst (λ d. IsIn columns e.0.row e.0.column e.0.path d) (ap (λ o. unwrap_or o c) h) all.0) (at_spot s e.0 new hit i),
          all.1,
        )
        | false ↦ λ hit h. (all.0, set_in s c new es h i all.1)
      ] refl there

  put_in : (s : Spot) (v : Content) (es : Entries) → IsIn columns s.row s.column s.path v → AreIn columns es → AreIn columns (insert_entry spot_cmp es s v)
  put_in s v [] i all = (i, tt)
  put_in s v (f ∷ es) i all =
      elim (spot_cmp s f.0) as (λ r. spot_cmp s f.0 ≡ r → AreIn columns (match_ordering r ((s, v) ∷ f ∷ es) ((f.0, v) ∷ es) (f ∷ insert_entry spot_cmp es s v))) [
        | Less ↦ λ e. (i, all)
        | Equal ↦ λ e. (at_spot s f.0 v (ap is_eq e) i, all.1)
        | Greater ↦ λ e. (all.0, put_in s v es i all.1)
      ] refl

  pub with_spot_in : (s : Spot) (tag : Option TypeTag) (es : Entries) → IsIn columns s.row s.column s.path (blank tag) → AreIn columns es → AreIn columns (with_spot s tag es)
  with_spot_in s tag es i all =
      elim (has_spot s es) as (λ b. AreIn columns (cond b es (insert_entry spot_cmp es s (blank tag)))) [
        | true ↦ all
        | false ↦ put_in s (blank tag) es i all
      ]
