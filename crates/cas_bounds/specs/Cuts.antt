-- The cuts between the rows of a partition, and what stands past them.
-- CQL documentation, "Data manipulation: SELECT, WHERE"; the cuts' own order is own.
use Rattle.std.specs.Prelude.{ℕ, Bool, not, ◌&&◌, List, [], ◌∷◌, length, take, drop, if◌then◌else◌}
use Rattle.std.specs.declared.cmp.Ordering.{Ordering}
use Rattle.std.specs.declared.cmp.Ordering.TheVariants.{Less, Greater}
use Rattle.std.specs.Ordering.{is_lt, is_gt, bool_cmp, ordering_then}
use Rattle.cas_bounds.specs.Orders.{first_cmp, values_cmp}
use Rattle.cas_bounds.specs.declared.order.Ordered.{Ordered}
use Rattle.cas_bounds.specs.declared.cuts.Cut.{Cut}

-- past a cut that stands after are the rows whose first values, as many as the prefix has, are greater than the prefix; past one that stands
-- before also those where they equal it
abbrev pub is_past : Cut → List (List ℕ) → Bool
is_past cut c =
    let r = values_cmp cut.order (take (length cut.prefix) c) cut.prefix in
    if cut.after then is_gt r else not (is_lt r)

-- past the low cut, and not past the high one
abbrev pub is_inside : Cut → Cut → List (List ℕ) → Bool
is_inside lo hi c = is_past lo c && not (is_past hi c)

-- the first difference of the prefixes decides; without one, before is below after, and a shorter prefix is below where its cut stands before,
-- and above where it stands after (own)
abbrev pub prefixes_cmp : List Ordered → List (List ℕ) → Bool → List (List ℕ) → Bool → Ordering
prefixes_cmp order [] p [] q = bool_cmp p q
prefixes_cmp order [] p (y ∷ ys) q = if p then Greater else Less
prefixes_cmp order (x ∷ xs) p [] q = if q then Less else Greater
prefixes_cmp order (x ∷ xs) p (y ∷ ys) q = ordering_then (first_cmp order x y) (prefixes_cmp (drop 1 order) xs p ys q)

-- two cuts of one order (own)
abbrev pub cut_cmp : Cut → Cut → Ordering
cut_cmp a b = prefixes_cmp a.order a.prefix a.after b.prefix b.after
