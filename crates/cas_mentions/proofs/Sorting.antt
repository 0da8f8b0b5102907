-- Where a list is sorted, what is twice in it stands side by side; and sorting changes nothing of whether something is twice in it.
use Rattle.std.proofs.Common.{◌≡◌, ℕ, ◌+◌, ◌<◌, Bool, true, false, not, ◌&&◌, if◌then◌else◌, List, [], ◌∷◌, ◌++◌, length, get_or, take, map, Option, None, Some, refl, sym, ap, ◌∙◌, arith}
use Rattle.std.specs.List.Sorted.{IsPermutation, IsSorted}
use Rattle.std.specs.Cmp.{IsTotalOrder}
use Rattle.std.specs.Ordering.{is_lt, is_eq, is_gt, ordering_then}
use Rattle.std.specs.Cmp.Lexicographic.{options_total}
use Rattle.std.specs.Option.{option_cmp}
use Rattle.std.specs.Str.{bytes_eq}
use Rattle.std.specs.declared.cmp.Ordering.{Ordering}
use Rattle.std.specs.declared.cmp.Ordering.TheVariants.{Less, Equal, Greater}
use Rattle.std.proofs.lemmas.Cmp.{then_total, on_total, nat_cmp_total, int_cmp_total, nat_list_cmp_total, tied_itself}
use Rattle.std.proofs.lemmas.List.{map_push, take_more}
use Rattle.std.proofs.lemmas.List.Sorted.{ranks_by}
use Rattle.std.proofs.lemmas.Map.Text.{is_eq-slice_cmp}
use Rattle.std.proofs.lemmas.Slice.Eq.{bytes_eq-Decides}
use Rattle.cas_types.specs.Values.{bytes_cmp}
use Rattle.cql_parse.specs.declared.term.Constant.{Constant}
use Rattle.cql_parse.specs.declared.term.Constant.TheVariants as constant
use Rattle.cas_terms.specs.Inner.Beside.{any_beside}
use Rattle.cas_terms.specs.Names.{any_two}
use Rattle.cas_terms.proofs.SortedLists.{between, turned_tie, not_above, beside_tells, up_from, two_kept}
use Rattle.cas_mentions.specs.Inner.Spots.{Changed, in_spot, changed_in, same_changed, constant_rank, bytes_in, number_in, constant_cmp, changed_cmp, spot_cmp, same_spot}
use Rattle.cas_types.specs.declared.schema.Column.{Column}
use Rattle.cas_mentions.proofs.Changed.{two_mapped}
use Rattle.cas_mentions.specs.ColumnFaults.{is_same_constant, are_other_entries, names_map, entry_key, change_the_same}
use Rattle.cas_mentions.specs.Mentions.{Change}
use Rattle.cas_mentions.specs.declared.twice.Spot.{Spot}

-- ---- the order

pub constant_total : IsTotalOrder constant_cmp
constant_total = then_total (on_total constant_rank nat_cmp_total) (then_total (on_total bytes_in nat_list_cmp_total) (on_total number_in int_cmp_total))

pub changed_total : IsTotalOrder changed_cmp
changed_total = then_total (on_total (λ (a : Changed). a.0) nat_list_cmp_total) (on_total (λ (a : Changed). a.1) (options_total constant_total))

bytes_tie : (xs ys : List ℕ) → is_eq (ordering_then (bytes_cmp xs ys) Equal) ≡ bytes_eq xs ys
bytes_tie xs ys = then_equal (bytes_cmp xs ys) ∙ is_eq-slice_cmp xs ys
  where
    then_equal : (r : Ordering) → is_eq (ordering_then r Equal) ≡ is_eq r
    then_equal Less = refl
    then_equal Equal = refl
    then_equal Greater = refl

same_tie : (a b : Constant) → is_same_constant a b ≡ is_eq (constant_cmp a b)
unfolding is_same_constant
same_tie (constant.Text t) (constant.Text u) = sym (bytes_tie t u)
same_tie (constant.Number m) (constant.Number n) = refl
same_tie (constant.Blob b) (constant.Blob d) = sym (bytes_tie b d)
same_tie (constant.Uuid u) (constant.Uuid v) = sym (bytes_tie u v)
same_tie (constant.Boolean true) (constant.Boolean true) = refl
same_tie (constant.Boolean true) (constant.Boolean false) = refl
same_tie (constant.Boolean false) (constant.Boolean true) = refl
same_tie (constant.Boolean false) (constant.Boolean false) = refl
same_tie (constant.Text t) (constant.Number n) = refl
same_tie (constant.Text t) (constant.Blob n) = refl
same_tie (constant.Text t) (constant.Uuid n) = refl
same_tie (constant.Text t) (constant.Boolean n) = refl
same_tie (constant.Number t) (constant.Text n) = refl
same_tie (constant.Number t) (constant.Blob n) = refl
same_tie (constant.Number t) (constant.Uuid n) = refl
same_tie (constant.Number t) (constant.Boolean n) = refl
same_tie (constant.Blob t) (constant.Text n) = refl
same_tie (constant.Blob t) (constant.Number n) = refl
same_tie (constant.Blob t) (constant.Uuid n) = refl
same_tie (constant.Blob t) (constant.Boolean n) = refl
same_tie (constant.Uuid t) (constant.Text n) = refl
same_tie (constant.Uuid t) (constant.Number n) = refl
same_tie (constant.Uuid t) (constant.Blob n) = refl
same_tie (constant.Uuid t) (constant.Boolean n) = refl
same_tie (constant.Boolean true) (constant.Text n) = refl
same_tie (constant.Boolean true) (constant.Number n) = refl
same_tie (constant.Boolean true) (constant.Blob n) = refl
same_tie (constant.Boolean true) (constant.Uuid n) = refl
same_tie (constant.Boolean false) (constant.Text n) = refl
same_tie (constant.Boolean false) (constant.Number n) = refl
same_tie (constant.Boolean false) (constant.Blob n) = refl
same_tie (constant.Boolean false) (constant.Uuid n) = refl

-- ---- what stands between two that are one is one with the first

first_part : (r s : Ordering) → is_gt (ordering_then r s) ≡ false → is_gt r ≡ false
first_part Less s e = refl
first_part Equal s e = refl
first_part Greater s e = cc

rest_part : (r s : Ordering) → is_eq r ≡ true → is_gt (ordering_then r s) ≡ false → is_gt s ≡ false
rest_part Less s t e = cc
rest_part Equal s t e = e
rest_part Greater s t e = cc

both : (a b : Bool) → (a && b) ≡ true → (a ≡ true) × (b ≡ true)
both true true e = (refl, refl)
both true false e = cc
both false b e = cc

near_entries : (a b c : Option Constant) → is_gt (option_cmp constant_cmp a b) ≡ false → is_gt (option_cmp constant_cmp b c) ≡ false
    → not (are_other_entries a c) ≡ true → not (are_other_entries a b) ≡ true
near_entries None b c low high same = refl
near_entries (Some x) None c low high same = cc
near_entries (Some x) (Some y) None low high same = cc
near_entries (Some x) (Some y) (Some z) low high same =
    let tie : is_eq (constant_cmp x z) ≡ true = sym (same_tie x z) ∙ twice same in
    ap (λ b. not (not b)) (same_tie x y ∙ between constant_total x y z low high tie)
  where
    twice : not (not (is_same_constant x z)) ≡ true → is_same_constant x z ≡ true
    twice e = settle (is_same_constant x z) e
      where
        settle : (b : Bool) → not (not b) ≡ true → b ≡ true
        settle true f = refl
        settle false f = cc

near : (a b c : Changed) → is_gt (changed_cmp a b) ≡ false → is_gt (changed_cmp b c) ≡ false → same_changed a c ≡ true → same_changed a b ≡ true
near a b c low high same =
    let parts : (bytes_eq a.0 c.0 ≡ true) × (not (are_other_entries a.1 c.1) ≡ true) = both _ _ same in
    let ends : is_eq (bytes_cmp a.0 c.0) ≡ true = is_eq-slice_cmp a.0 c.0 ∙ parts.0 in
    let first : is_eq (bytes_cmp a.0 b.0) ≡ true = between nat_list_cmp_total a.0 b.0 c.0 (first_part _ _ low) (first_part _ _ high) ends in
    let names : bytes_eq a.0 b.0 ≡ true = sym (is_eq-slice_cmp a.0 b.0) ∙ first in
    let one : a.0 ≡ b.0 = (bytes_eq-Decides a.0 b.0).0 names in
    let last : is_eq (bytes_cmp b.0 c.0) ≡ true = ap (λ n. is_eq (bytes_cmp n c.0)) (sym one) ∙ ends in
    (λ j. names j && near_entries a.1 b.1 c.1 (rest_part _ _ first low) (rest_part _ _ last high) parts.1 j)

-- ---- spots

entry_itself : (a : Option Constant) → not (are_other_entries a a) ≡ true
entry_itself None = refl
entry_itself (Some k) = ap (λ b. not (not b)) (same_tie k k ∙ ap is_eq (tied_itself constant_total k))

spot_itself : (s : Spot) → same_spot s s ≡ true
spot_itself s = λ j. (sym (is_eq-slice_cmp s.name.now s.name.now) ∙ ap is_eq (tied_itself nat_list_cmp_total s.name.now)) j && entry_itself (in_spot s).1 j

entries_turned : (a b : Option Constant) → are_other_entries a b ≡ are_other_entries b a
entries_turned None None = refl
entries_turned None (Some y) = refl
entries_turned (Some x) None = refl
entries_turned (Some x) (Some y) = ap not (same_tie x y ∙ turned_tie constant_total x y ∙ sym (same_tie y x))

spots_turned : (s t : Spot) → same_spot s t ≡ same_spot t s
spots_turned s t =
    λ j. (sym (is_eq-slice_cmp s.name.now t.name.now) ∙ turned_tie nat_list_cmp_total s.name.now t.name.now ∙ is_eq-slice_cmp t.name.now s.name.now) j
    && not (entries_turned (in_spot s).1 (in_spot t).1 j)

chained : (a b c : Changed) → is_lt (changed_cmp b a) ≡ false → is_lt (changed_cmp c b) ≡ false → is_lt (changed_cmp c a) ≡ false
chained a b c low high = (ranks_by changed_total (λ x. x)).chain c b a high low

pub sorted_tells : (xs ys : List Spot) → IsPermutation xs ys → IsSorted spot_cmp ys → any_beside same_spot ys ≡ any_two same_spot xs
sorted_tells xs ys same sorted =
    beside_tells (λ s t. is_lt (spot_cmp s t)) same_spot (λ x y z low high. near (in_spot x) (in_spot y) (in_spot z) (not_above changed_total (in_spot x) (in_spot y) low) (not_above changed_total (in_spot y) (in_spot z) high))
    (λ x y z low high. chained (in_spot x) (in_spot y) (in_spot z) low high) ys
    (up_from (λ s t. is_lt (spot_cmp s t)) same_spot (λ x y z low high. near (in_spot x) (in_spot y) (in_spot z) (not_above changed_total (in_spot x) (in_spot y) low) (not_above changed_total (in_spot y) (in_spot z) high))
    (λ x y z low high. chained (in_spot x) (in_spot y) (in_spot z) low high) ys (λ k d within. sorted k d (omega arith) within))
    ∙ two_kept same_spot spot_itself spots_turned xs ys same

-- ---- spots of changes

module _ (cs : List Column) where
  agree : (p q : List ℕ × Change) → same_changed (changed_in cs p) (changed_in cs q) ≡ change_the_same cs p q
  unfolding change_the_same
  agree p q =
      elim (bytes_eq p.0 q.0) as (λ b. bytes_eq p.0 q.0 ≡ b
      → (b && not (are_other_entries (changed_in cs p).1 (changed_in cs q).1)) ≡ (b && not (names_map cs p.0 && are_other_entries (entry_key p.1) (entry_key q.1)))) [
        | true ↦ λ e. let same : p.0 ≡ q.0 = (bytes_eq-Decides p.0 q.0).0 e in
            ap (λ n. not (are_other_entries (changed_in cs p).1 (if names_map cs n then entry_key q.1 else None))) (sym same) ∙ of_map (names_map cs p.0) (entry_key p.1) (entry_key q.1)
        | false ↦ λ e. refl
      ] refl
    where
      of_map : (b : Bool) (x y : Option Constant) → not (are_other_entries (if b then x else None) (if b then y else None)) ≡ not (b && are_other_entries x y)
      of_map true x y = refl
      of_map false x y = refl

  pub spots_tell : {X : Type 0} (g : X → List ℕ × Change) (xs : List X) (spots : List Spot) → map in_spot spots ≡ map (λ x. changed_in cs (g x)) xs
      → any_two same_spot spots ≡ any_two (λ a b. change_the_same cs (g a) (g b)) xs
  spots_tell g xs spots e =
      sym (two_mapped same_changed in_spot spots) ∙ ap (any_two same_changed) e ∙ two_mapped same_changed (λ x. changed_in cs (g x)) xs
      ∙ (λ j. any_two (λ a b. agree (g a) (g b) j) xs)

pub names_tell : (names : List (List ℕ)) (spots : List Spot) → map in_spot spots ≡ map (λ n. (n, None)) names → any_two same_spot spots ≡ any_two bytes_eq names
names_tell names spots e =
    sym (two_mapped same_changed in_spot spots) ∙ ap (any_two same_changed) e ∙ two_mapped same_changed (λ n. (n, None)) names
    ∙ (λ j. any_two (λ a b. alone (bytes_eq a b) j) names)
  where
    alone : (b : Bool) → (b && true) ≡ b
    alone true = refl
    alone false = refl

-- one more spot is put after those before it
pub spots_step : {X : Type 0} (f : X → Changed) (A : List X) (i : ℕ) (x : X) (before after : List Spot) (s : Spot) → i < length A → x ≡ get_or A i x → map in_spot before ≡ map f (take i A)
    → after ≡ before ++ s ∷ [] → in_spot s ≡ f x → map in_spot after ≡ map f (take (i + 1) A)
spots_step f A i x before after s h e b a is =
    ap (map in_spot) a ∙ map_push in_spot before s ∙ (λ j. b j ++ (is ∙ ap f e) j ∷ []) ∙ sym (map_push f (take i A) (get_or A i x)) ∙ sym (ap (map f) (take_more A i x h))
