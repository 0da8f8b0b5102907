-- The atoms of a write that a table can take are ones that it may hold.
use Rattle.std.proofs.Common.{◌≡◌, ℕ, ℤ, pos, negsuc, ◌+◌, ◌+ℤ◌, ◌-ℤ◌, ◌==◌, ◌≤◌, ◌≤ℤ◌, int_le, true, false, ◌&&◌, if◌then◌else◌, List, [], ◌∷◌, ◌++◌, map, length, Option, None, Some, is_none, unwrap_or, IfSome, refl, sym, ap, subst, FitsSigned, arith}
use Rattle.std.specs.List.{AllByRecursion, flat_map, enumerate_from}
use Rattle.std.specs.Int.{w64}
use Rattle.std.specs.Ordering.{is_lt}
use Rattle.std.specs.declared.cmp.Ordering.{Ordering}
use Rattle.std.specs.declared.cmp.Ordering.TheVariants.{Less, Equal, Greater}
use Rattle.std.proofs.lemmas.Int.{ints}
use Rattle.std.proofs.lemmas.Bool.Decides.{nat_tests}
use Rattle.std.proofs.lemmas.List.Elements.{All-from_recursion, recursion_from_All}
use Rattle.cas_types.specs.Limits.{IsMoment}
use Rattle.cas_types.specs.Schemas.{is_plain, is_static, is_regular}
use Rattle.cas_types.specs.declared.limits.TheConstants.{LEAST_RECORDED, GREATEST_TIMESTAMP, TTL_LIMIT}
use Rattle.cas_types.specs.declared.schema.Column.{Column}
use Rattle.cas_types.specs.declared.schema.Shape.TheVariants as shape
use Rattle.cas_bounds.specs.Cuts.{cut_cmp}
use Rattle.cas_bounds.specs.declared.cuts.Clustering.{Clustering}
use Rattle.cas_cell.specs.declared.cell.Cell.TheVariants as cell
use Rattle.cas_cell.specs.declared.liveness.Liveness.TheVariants as live
use Rattle.cas_atoms.specs.Fits.{Fits, FitsTimestamp, FitsTtl, FitsDeletion, FitsLive, FitsCell, FitsPath, FitsEmptied, FitsStamp, is_timestamp, is_ttl, is_path, is_path_in, is_cell_value}
use Rattle.cas_atoms.specs.declared.atom.Atom.TheVariants as atom
use Rattle.cas_atoms.specs.declared.atom.ColumnRef.{ColumnRef}
use Rattle.cas_effects.specs.AtomsOf.{live_of, cell_of, deletion_of, deletion_before, write_at, emptied_at, list_path, placed_at, placed, element_atom, element_atoms, effect_atoms, stamp_of, mutation_of}
use Rattle.cas_effects.specs.FitsBound.{FitsColumn, FitsGiven, FitsElements, FitsEffect, IsUsable, IsDrawn, MutationsFit}
use Rattle.cas_effects.specs.declared.effect.BoundWrite.{BoundWrite}
use Rattle.cas_effects.specs.declared.effect.Effect.{Effect}
use Rattle.cas_effects.specs.declared.effect.Effect.TheVariants as effect
use Rattle.cas_effects.specs.declared.effect.Elements.{Elements}
use Rattle.cas_effects.specs.declared.effect.Elements.TheVariants as elements
use Rattle.cas_effects.specs.declared.stamped.Stamp.{Stamp}

-- ---- lists

module _ {Y : Type 0} (P : Y → Type 0) where
  joined : (xs ys : List Y) → AllByRecursion P xs → AllByRecursion P ys → AllByRecursion P (xs ++ ys)
  joined [] ys first rest = rest
  joined (x ∷ xs) ys first rest = (first.0, joined xs ys first.1 rest)

module _ {X Y : Type 0} (P : Y → Type 0) where
  flat : (Q : X → Type 0) (f : X → List Y) → ((x : X) → Q x → AllByRecursion P (f x)) → (xs : List X) → AllByRecursion Q xs → AllByRecursion P (flat_map f xs)
  flat Q f each [] all = tt
  flat Q f each (x ∷ xs) all = joined P (f x) (flat_map f xs) (each x all.0) (flat Q f each xs all.1)

  mapped : (Q : X → Type 0) (f : X → Y) → ((x : X) → Q x → P (f x)) → (xs : List X) → AllByRecursion Q xs → AllByRecursion P (map f xs)
  mapped Q f each [] all = tt
  mapped Q f each (x ∷ xs) all = (each x all.0, mapped Q f each xs all.1)

-- ---- times

int_le_true : (a b : ℤ) → a ≤ℤ b → int_le a b ≡ true
int_le_true a b le = grind (arith, ints)

in_bytes : (z : ℤ) → LEAST_RECORDED ≤ℤ z → z ≤ℤ GREATEST_TIMESTAMP → FitsSigned w64 z
in_bytes (pos n) low high = record { sfits = omega (arith, ints) }
in_bytes (negsuc n) low high = record { sfits = omega (arith, ints) }

usable : (at : ℤ) → LEAST_RECORDED ≤ℤ at → at ≤ℤ GREATEST_TIMESTAMP → FitsTimestamp at
unfolding is_timestamp
usable at low high = (in_bytes at low high, λ j. int_le_true LEAST_RECORDED at low j && int_le_true at GREATEST_TIMESTAMP high j)

short_ttl : (ttl : ℕ) → ttl ≤ TTL_LIMIT → (ttl == 0) ≡ false → FitsTtl ttl
unfolding is_ttl
short_ttl ttl few some = (omega arith, grind (arith, nat_tests))

-- a stamp within the limits
pub record FitsAt (s : Stamp) : Type 0 where
  pub at : IsUsable s.at
  pub moment : IsMoment s.moment
  pub ttl : s.ttl ≤ TTL_LIMIT

module _ (s : Stamp) (fits : FitsAt s) where
  now : FitsTimestamp s.at
  now = usable s.at (omega (arith, ints, fits.at.0)) fits.at.1

  second : FitsSigned w64 s.moment
  second = in_bytes s.moment (omega (arith, ints, fits.moment.0)) (omega (arith, ints, fits.moment.1))

  expiry : FitsSigned w64 (s.moment +ℤ pos s.ttl)
  expiry = let few : s.ttl ≤ TTL_LIMIT = fits.ttl in in_bytes (s.moment +ℤ pos s.ttl) (omega (arith, ints, fits.moment.0)) (omega (arith, ints, fits.moment.1))

  deletion_fits : FitsDeletion (deletion_of s)
  deletion_fits = (now, second)

  before_fits : FitsDeletion (deletion_before s)
  before_fits = (usable (s.at -ℤ pos 1) (omega (arith, ints, fits.at.0)) (omega (arith, ints, fits.at.1)), second)

  live_fits : FitsLive (live_of s)
  live_fits =
      elim (s.ttl == 0) as (λ b. (s.ttl == 0) ≡ b → FitsLive (if b then live.Plain s.at else live.Expiring s.at (s.moment +ℤ pos s.ttl) s.ttl)) [
        | true ↦ λ e. now
        | false ↦ λ e. (now, expiry, short_ttl s.ttl fits.ttl e)
      ] refl

  cell_fits : (c : Column) (v : Option (List ℕ)) → FitsGiven c v → FitsCell (λ bytes. is_cell_value c bytes ≡ true) (cell_of s v)
  cell_fits c None given = (now, second)
  cell_fits c (Some v) given =
      elim (s.ttl == 0) as (λ b. (s.ttl == 0) ≡ b → FitsCell (λ bytes. is_cell_value c bytes ≡ true) (if b then cell.Plain s.at v else cell.Expiring s.at (s.moment +ℤ pos s.ttl) s.ttl v)) [
        | true ↦ λ e. (now, given)
        | false ↦ λ e. (now, expiry, short_ttl s.ttl fits.ttl e, given)
      ] refl

  module _ (columns : List Column) where
    write_fits : (row : Option Clustering) (ref : ColumnRef) (path : List ℕ) (v : Option (List ℕ)) → FitsColumn columns row ref (λ c. FitsPath c path × FitsGiven c v)
        → Fits columns (write_at row ref path (cell_of s v))
    write_fits None ref path v f = record { column = f.column; named = f.named; kind = f.kind; path = f.holds.0; cell = cell_fits f.column v f.holds.1 }
    write_fits (Some c) ref path v f = (f.place, record { column = f.column; named = f.named; kind = f.kind; path = f.holds.0; cell = cell_fits f.column v f.holds.1 })

    emptied_fits : (row : Option Clustering) (ref : ColumnRef) → FitsColumn columns row ref (λ c. is_plain c.shape ≡ false)
        → (Fits columns (emptied_at row ref (deletion_of s))) × (Fits columns (emptied_at row ref (deletion_before s)))
    emptied_fits None ref f =
        let whole : FitsEmptied is_static columns ref = record { column = f.column; named = f.named; kind = f.kind; collection = f.holds } in ((whole, deletion_fits), (whole, before_fits))
    emptied_fits (Some c) ref f =
        let whole : FitsEmptied is_regular columns ref = record { column = f.column; named = f.named; kind = f.kind; collection = f.holds } in ((f.place, whole, deletion_fits), (f.place, whole, before_fits))

    -- ---- elements

    path_in_list : (c : Column) (order index : ℕ) → c.shape ≡ shape.List → FitsPath c (list_path order index)
    unfolding is_path
    path_in_list c order index e =
        let long : length (list_path order index) ≡ 16 = refl in (omega arith, ap (λ x. is_path_in x c.tag (list_path order index)) e)

    placed_fit : (c : Column) (order i : ℕ) (vs : List (List ℕ)) → c.shape ≡ shape.List → AllByRecursion (λ v. is_cell_value c v ≡ true) vs
        → AllByRecursion (λ e. FitsPath c e.0 × FitsGiven c e.1) (map (placed_at order) (enumerate_from i vs))
    placed_fit c order i [] list all = tt
    placed_fit c order i (v ∷ vs) list all = ((path_in_list c order i list, all.0), placed_fit c order (i + 1) vs list all.1)

    all_placed : (c : Column) (es : Elements) → FitsElements c es → AllByRecursion (λ e. FitsPath c e.0 × FitsGiven c e.1) (placed s.number es)
    all_placed c (elements.At es) f = recursion_from_All (λ e. FitsPath c e.0 × FitsGiven c e.1) es f
    all_placed c (elements.Appended vs) f = placed_fit c _ 0 vs f.0 (recursion_from_All (λ v. is_cell_value c v ≡ true) vs f.1)
    all_placed c (elements.Prepended vs) f = placed_fit c _ 0 vs f.0 (recursion_from_All (λ v. is_cell_value c v ≡ true) vs f.1)

    parts_fit : (row : Option Clustering) (ref : ColumnRef) (es : Elements) → FitsColumn columns row ref (λ c. FitsElements c es) → AllByRecursion (Fits columns) (element_atoms s row ref es)
    unfolding element_atoms
    parts_fit row ref es f =
        mapped (Fits columns) (λ e. FitsPath f.column e.0 × FitsGiven f.column e.1) (element_atom s row ref)
        (λ e g. write_fits row ref e.0 e.1 (record { place = f.place; column = f.column; named = f.named; kind = f.kind; holds = g }))
        (placed s.number es) (all_placed f.column es f.holds)

    -- ---- effects

    no_path : (c : Column) → c.shape ≡ shape.One → FitsPath c []
    unfolding is_path
    no_path c e = (omega arith, ap (λ x. is_path_in x c.tag []) e)

    is_less : (r : Ordering) → is_lt r ≡ true → r ≡ Less
    is_less Less e = refl
    is_less Equal e = cc
    is_less Greater e = cc

    effect_fits : (e : Effect) → FitsEffect columns e → AllByRecursion (Fits columns) (effect_atoms s e)
    unfolding effect_atoms
    effect_fits (effect.Live c) f = ((f, live_fits), tt)
    effect_fits (effect.Plain row ref v) f =
        (write_fits row ref [] v (record { place = f.place; column = f.column; named = f.named; kind = f.kind; holds = (no_path f.column f.holds.0, f.holds.1) }), tt)
    effect_fits (effect.Whole row ref es) f = (
      (emptied_fits row ref (record { place = f.place; column = f.column; named = f.named; kind = f.kind; holds = f.holds.0 })).1,
      parts_fit row ref es (record { place = f.place; column = f.column; named = f.named; kind = f.kind; holds = f.holds.1 }),
    )
    effect_fits (effect.Parts row ref es) f = parts_fit row ref es f
    effect_fits (effect.Emptied row ref) f = ((emptied_fits row ref f).0, tt)
    effect_fits (effect.Row c) f = ((f, deletion_fits), tt)
    effect_fits (effect.Range lo hi) f =
        elim (is_lt (cut_cmp lo hi)) as (λ b. is_lt (cut_cmp lo hi) ≡ b → AllByRecursion (Fits columns) (if b then atom.RangeDeletion lo hi (deletion_of s) ∷ [] else [])) [
          | true ↦ λ e. (((f.0, f.1, is_less (cut_cmp lo hi) e), deletion_fits), tt)
          | false ↦ λ e. tt
        ] refl
    effect_fits effect.Partition f = (deletion_fits, tt)

-- ---- the write

stamp_fits : (w : BoundWrite) (drawn moment : ℤ) (number : ℕ) (at : Option ℤ) → w.timestamp ≡ at → IfSome at IsUsable → IsDrawn drawn → IsMoment moment → w.ttl ≤ TTL_LIMIT
    → FitsAt (stamp_of w drawn moment number)
stamp_fits w drawn moment number None e used drawn_at when few =
    record { at = subst (λ o. IsUsable (unwrap_or o drawn)) (sym e) (omega (arith, ints, drawn_at.0), omega (arith, ints, drawn_at.1)); moment = when; ttl = few }
stamp_fits w drawn moment number (Some at) e used drawn_at when few =
    record { at = subst (λ o. IsUsable (unwrap_or o drawn)) (sym e) used; moment = when; ttl = few }

tells_stamp : (drawn : ℤ) (at : Option ℤ) → IfSome at IsUsable → IsDrawn drawn → FitsStamp (is_none at) (unwrap_or at drawn)
tells_stamp drawn None used is = is
tells_stamp drawn (Some at) used is = usable at (omega (arith, ints, used.0)) used.1

pub mutations_fit : MutationsFit
unfolding mutation_of
mutations_fit table shards w drawn moment number fits is_drawn is_moment counted =
    let s : Stamp = stamp_of w drawn moment number in
    record {
      of_table = fits.of_table;
      shard = fits.shard;
      number = counted;
      stamp = tells_stamp drawn w.timestamp fits.timestamp is_drawn;
      moment = is_moment;
      key = fits.key;
      atoms = All-from_recursion (Fits table.columns) _
          (flat (Fits table.columns) (FitsEffect table.columns) (effect_atoms s) (effect_fits s (stamp_fits w drawn moment number w.timestamp refl fits.timestamp is_drawn is_moment fits.ttl) table.columns) w.effects
          (recursion_from_All (FitsEffect table.columns) w.effects fits.effects));
    }
