-- Where the numbers of two spots of one kind differ, they decide.
use Rattle.std.proofs.Common.{arith, ◌≡◌, ℕ, zero, suc, ◌+◌, ℤ, pos, negsuc, ◌==◌, if◌then◌else◌, Bool, true, false, Option, None, Some, List, [], ◌∷◌, ◌⊎◌, inl, inr, refl, sym, ap, ◌∙◌, subst}
use Rattle.std.proofs.lemmas.Cmp.{tied_itself}
use Rattle.std.proofs.lemmas.Option.{none-some}
use Rattle.std.proofs.Math.IntN.{ -ℤ_one}
use Rattle.std.specs.Option.{option_cmp}
use Rattle.std.specs.FinMap.{int_cmp-IsAntisymmetric}
use Rattle.std.specs.Ordering.{int_cmp, ordering_then, is_gt}
use Rattle.std.specs.declared.cmp.Ordering.{Ordering}
use Rattle.std.specs.declared.cmp.Ordering.TheVariants.{Less, Equal, Greater}
use Rattle.cas_types.specs.Values.{value_cmp}
use Rattle.cas_types.specs.declared.tag.TypeTag.{TypeTag}
use Rattle.cas_types.specs.declared.tag.TypeTag.TheVariants.{Ascii, BigInt, Blob, Boolean, Date, Int, SmallInt, Text, Time, Timestamp, TimeUuid, TinyInt, Uuid}
use Rattle.cas_bounds.specs.Orders.{column_cmp}
use Rattle.cas_bounds.specs.Points.{ends_cmp, side}
use Rattle.cas_bounds.specs.Keys.{key_cmp}
use Rattle.cas_bounds.specs.Inner.KeyLaws.{keys_are_points}
use Rattle.cas_bounds.specs.declared.map_key.End.{End}
use Rattle.cas_bounds.specs.declared.map_key.End.TheVariants.{Row}
use Rattle.cas_bounds.specs.declared.map_key.MapKey.{MapKey}
use Rattle.cas_bounds.specs.declared.order.Ordered.{Ordered}
use Rattle.cas_partition.specs.Spots.{row_cmp}
use Rattle.cas_partition.specs.Inner.Fronts.{row_total, HaveSameValues, plain_number, kind_of, turned, no_front, front_by, front_at, front_of}
use Rattle.cas_partition.specs.Inner.Passing.{is_first}
use Rattle.cas_partition.specs.Inner.Slots.{is_after}
use Rattle.cas_partition.specs.declared.front.Front.{Front}

decided : (r s : Ordering) → (r ≡ Equal → ⊥) → ordering_then r s ≡ r
decided Less s n = refl
decided Equal s n = absurd (n refl)
decided Greater s n = refl

differ : (i j : ℤ) (s : Ordering) → (i ≡ j → ⊥) → ordering_then (int_cmp i j) s ≡ int_cmp i j
differ i j s n = decided (int_cmp i j) s (λ e. n (int_cmp-IsAntisymmetric i j e))

-- ---- numbers from the greatest down

-- the same by cases
flipped : ℤ → ℤ
flipped (pos n) = negsuc n
flipped (negsuc n) = pos n

turned_is : (n : ℤ) → turned n ≡ flipped n
unfolding flipped
turned_is (pos zero) = refl
turned_is (pos (suc n)) = let e : 0 + n ≡ n = omega arith in ap (λ k. negsuc (suc k)) e
turned_is (negsuc n) = -ℤ_one (pos (suc n))

flips : (i j : ℤ) → int_cmp (flipped i) (flipped j) ≡ int_cmp j i
unfolding flipped
flips (pos m) (pos n) = refl
flips (pos m) (negsuc n) = refl
flips (negsuc m) (pos n) = refl
flips (negsuc m) (negsuc n) = refl

turns : (i j : ℤ) → int_cmp (turned i) (turned j) ≡ int_cmp j i
turns i j = (λ k. int_cmp (turned_is i k) (turned_is j k)) ∙ flips i j

-- ---- values of one column

numbered : (i j : ℤ) (s : Ordering) (a b : Option ℤ) → a ≡ Some i → b ≡ Some j → (i ≡ j → ⊥) → ordering_then (option_cmp int_cmp a b) s ≡ int_cmp i j
numbered i j s a b p q n = ap (λ c. ordering_then c s) (λ k. option_cmp int_cmp (p k) (q k)) ∙ differ i j s n

plain_decides : (t : TypeTag) (x y : List ℕ) (i j : ℤ) → plain_number t x ≡ Some i → plain_number t y ≡ Some j → (i ≡ j → ⊥) → value_cmp t x y ≡ int_cmp i j
plain_decides Ascii x y i j p q n = absurd (none-some i p)
plain_decides BigInt x y i j p q n = numbered i j _ _ _ p q n
plain_decides Blob x y i j p q n = absurd (none-some i p)
plain_decides Boolean x y i j p q n = absurd (none-some i p)
plain_decides Date x y i j p q n = absurd (none-some i p)
plain_decides Int x y i j p q n = numbered i j _ _ _ p q n
plain_decides SmallInt x y i j p q n = numbered i j _ _ _ p q n
plain_decides Text x y i j p q n = absurd (none-some i p)
plain_decides Time x y i j p q n = numbered i j _ _ _ p q n
plain_decides Timestamp x y i j p q n = numbered i j _ _ _ p q n
plain_decides TimeUuid x y i j p q n = absurd (none-some i p)
plain_decides TinyInt x y i j p q n = numbered i j _ _ _ p q n
plain_decides Uuid x y i j p q n = absurd (none-some i p)

-- the number in the column's direction
abbrev toward : Bool → ℤ → ℤ
toward d n = if d then turned n else n

abbrev column : TypeTag → Bool → Ordered
column t d = record { tag = t; descending = d }

column_decides : (t : TypeTag) (d : Bool) (x y : List ℕ) (i j : ℤ) → plain_number t x ≡ Some i → plain_number t y ≡ Some j
    → (toward d i ≡ toward d j → ⊥) → column_cmp (column t d) x y ≡ int_cmp (toward d i) (toward d j)
column_decides t false x y i j p q n = plain_decides t x y i j p q n
column_decides t true x y i j p q n = plain_decides t y x j i q p (λ e. n (ap turned (sym e))) ∙ sym (turns i j)

-- ---- the kind tells the column

kind_column : ℕ → Ordered
kind_column k =
    if k == 1 then column TinyInt false else if k == 2 then column TinyInt true else if k == 3 then column SmallInt false else
    if k == 4 then column SmallInt true else if k == 5 then column Int false else if k == 6 then column Int true else
    if k == 7 then column BigInt false else if k == 8 then column BigInt true else if k == 9 then column Time false else
    if k == 10 then column Time true else if k == 11 then column Timestamp false else if k == 12 then column Timestamp true else column Ascii false

kind_back : (t : TypeTag) (d : Bool) (x : List ℕ) (n : ℤ) → plain_number t x ≡ Some n → kind_column (kind_of (column t d)) ≡ column t d
unfolding kind_column
kind_back Ascii d x n p = absurd (none-some n p)
kind_back BigInt false x n p = refl
kind_back BigInt true x n p = refl
kind_back Blob d x n p = absurd (none-some n p)
kind_back Boolean d x n p = absurd (none-some n p)
kind_back Date d x n p = absurd (none-some n p)
kind_back Int false x n p = refl
kind_back Int true x n p = refl
kind_back SmallInt false x n p = refl
kind_back SmallInt true x n p = refl
kind_back Text d x n p = absurd (none-some n p)
kind_back Time false x n p = refl
kind_back Time true x n p = refl
kind_back Timestamp false x n p = refl
kind_back Timestamp true x n p = refl
kind_back TimeUuid d x n p = absurd (none-some n p)
kind_back TinyInt false x n p = refl
kind_back TinyInt true x n p = refl
kind_back Uuid d x n p = absurd (none-some n p)

-- a column of no kind has no numbers
no_kind : (o : Ordered) (x : List ℕ) (n : ℤ) → plain_number o.tag x ≡ Some n → kind_of o ≡ 0 → ⊥
unfolding kind_column
no_kind o x n p e =
    let is : column Ascii false ≡ o = ap kind_column (sym e) ∙ kind_back o.tag o.descending x n p in
    none-some n (ap (λ c. plain_number c.tag x) is ∙ p)

one_column : (o q : Ordered) (x y : List ℕ) (i j : ℤ) → plain_number o.tag x ≡ Some i → plain_number q.tag y ≡ Some j → kind_of o ≡ kind_of q → o ≡ q
one_column o q x y i j p r e = sym (kind_back o.tag o.descending x i p) ∙ ap kind_column e ∙ kind_back q.tag q.descending y j r

-- ---- keys of rows

abbrev key : Ordered → List ℕ → End → MapKey
key o x m = record { values = x ∷ []; end = m; order = o ∷ [] }

key_decides : (o : Ordered) (x y : List ℕ) (m n : End) (i j : ℤ) → plain_number o.tag x ≡ Some i → plain_number o.tag y ≡ Some j
    → (toward o.descending i ≡ toward o.descending j → ⊥) → key_cmp (key o x m) (key o y n) ≡ int_cmp (toward o.descending i) (toward o.descending j)
key_decides o x y m n i j p q d =
    keys_are_points (key o x m) (key o y n) refl
    ∙ ap (λ c. ordering_then c (ends_cmp [] m [] n [])) (column_decides o.tag o.descending x y i j p q d)
    ∙ differ (toward o.descending i) (toward o.descending j) (ends_cmp [] m [] n []) d

-- the row has one value, which is a number
record HasFront (row : Option MapKey) (f : Front) : Type 0 where
  order : Ordered
  value : List ℕ
  end : End
  number : ℤ
  is : row ≡ Some (key order value end)
  has : plain_number order.tag value ≡ Some number
  front : f ≡ record { kind = kind_of order; number = toward order.descending number }

front_or_not : (os : List Ordered) (xs : List (List ℕ)) (m : End)
    → (front_at os xs ≡ no_front) ⊎ HasFront (Some (record { values = xs; end = m; order = os })) (front_at os xs)
front_or_not [] xs m = inl refl
front_or_not (o ∷ []) [] m = inl refl
front_or_not (o ∷ []) (x ∷ []) m =
    elim (plain_number o.tag x) as (λ r. plain_number o.tag x ≡ r → (front_by o r ≡ no_front) ⊎ HasFront (Some (key o x m)) (front_by o r)) [
      | None ↦ λ e. inl refl
      | Some n ↦ λ e. inr (record { order = o; value = x; end = m; number = n; is = refl; has = e; front = refl })
    ] refl
front_or_not (o ∷ []) (x ∷ y ∷ ys) m = inl refl
front_or_not (o ∷ q ∷ os) xs m = inl refl

row_front : (row : Option MapKey) → (front_of row ≡ no_front) ⊎ HasFront row (front_of row)
row_front None = inl refl
row_front (Some k) = front_or_not k.order k.values k.end

both_fronts : (s t : Option MapKey) (a b : Front) → HasFront s a → HasFront t b → a.kind ≡ b.kind → (a.number ≡ b.number → ⊥) → option_cmp key_cmp s t ≡ int_cmp a.number b.number
both_fronts s t a b f g k n =
    let kinds : kind_of f.order ≡ kind_of g.order = sym (ap (λ z. z.kind) f.front) ∙ k ∙ ap (λ z. z.kind) g.front in
    let one : g.order ≡ f.order = sym (one_column f.order g.order f.value g.value f.number g.number f.has g.has kinds) in
    let has : plain_number f.order.tag g.value ≡ Some g.number = ap (λ o. plain_number o.tag g.value) (sym one) ∙ g.has in
    let first : a.number ≡ toward f.order.descending f.number = ap (λ z. z.number) f.front in
    let second : b.number ≡ toward f.order.descending g.number = ap (λ z. z.number) g.front ∙ ap (λ o. toward o.descending g.number) one in
    (λ i. option_cmp key_cmp (f.is i) ((g.is ∙ ap (λ o. Some (key o g.value g.end)) one) i))
    ∙ key_decides f.order f.value g.value f.end g.end f.number g.number f.has has (λ e. n (first ∙ e ∙ sym second))
    ∙ (λ i. int_cmp (sym first i) (sym second i))

fronts_decide : (s t : Option MapKey) (a b : Front) → (a ≡ no_front) ⊎ HasFront s a → (b ≡ no_front) ⊎ HasFront t b
    → a.kind ≡ b.kind → (a.number ≡ b.number → ⊥) → option_cmp key_cmp s t ≡ int_cmp a.number b.number
fronts_decide s t a b (inl p) (inl q) k n = absurd (n (ap (λ z. z.number) (p ∙ sym q)))
fronts_decide s t a b (inl p) (inr g) k n =
    absurd (no_kind g.order g.value g.number g.has (sym (ap (λ z. z.kind) g.front) ∙ sym k ∙ ap (λ z. z.kind) p))
fronts_decide s t a b (inr f) (inl q) k n =
    absurd (no_kind f.order f.value f.number f.has (sym (ap (λ z. z.kind) f.front) ∙ k ∙ ap (λ z. z.kind) q))
fronts_decide s t a b (inr f) (inr g) k n = both_fronts s t a b f g k n

-- ---- rows

pub numbers_decide : (s t : Option MapKey) (a b : Front) → a ≡ front_of s → b ≡ front_of t → a.kind ≡ b.kind → (a.number ≡ b.number → ⊥)
    → int_cmp a.number b.number ≡ row_cmp s t
numbers_decide s t a b p q k n =
    sym (fronts_decide s t a b (subst (λ f. (f ≡ no_front) ⊎ HasFront s f) (sym p) (row_front s)) (subst (λ f. (f ≡ no_front) ⊎ HasFront t f) (sym q) (row_front t)) k n)

both_same : (s t : Option MapKey) (a b : Front) → HasFront s a → HasFront t b → a.kind ≡ b.kind → HaveSameValues s t → s ≡ t
both_same s t a b f g k one =
    let kinds : kind_of f.order ≡ kind_of g.order = sym (ap (λ z. z.kind) f.front) ∙ k ∙ ap (λ z. z.kind) g.front in
    let orders : f.order ≡ g.order = one_column f.order g.order f.value g.value f.number g.number f.has g.has kinds in
    let same : HaveSameValues (Some (key f.order f.value f.end)) (Some (key g.order g.value g.end)) =
    subst (λ u. HaveSameValues u (Some (key g.order g.value g.end))) f.is (subst (HaveSameValues s) g.is one) in
    f.is ∙ (λ i. Some (record { values = same.0 i; end = (same.1 ∙ sym same.2) i; order = orders i ∷ [] })) ∙ sym g.is

fronts_same : (s t : Option MapKey) (a b : Front) → (a ≡ no_front) ⊎ HasFront s a → (b ≡ no_front) ⊎ HasFront t b
    → a.kind ≡ b.kind → (a.kind ≡ 0 → ⊥) → HaveSameValues s t → s ≡ t
fronts_same s t a b (inl p) g k n one = absurd (n (ap (λ z. z.kind) p))
fronts_same s t a b (inr f) (inl q) k n one = absurd (n (k ∙ ap (λ z. z.kind) q))
fronts_same s t a b (inr f) (inr g) k n one = both_same s t a b f g k one

pub one_row : (s t : Option MapKey) (a b : Front) → a ≡ front_of s → b ≡ front_of t → a.kind ≡ b.kind → (a.kind ≡ 0 → ⊥) → HaveSameValues s t → Equal ≡ row_cmp s t
one_row s t a b p q k n one =
    let same : s ≡ t = fronts_same s t a b (subst (λ f. (f ≡ no_front) ⊎ HasFront s f) (sym p) (row_front s)) (subst (λ f. (f ≡ no_front) ⊎ HasFront t f) (sym q) (row_front t)) k n one in
    sym (ap (row_cmp s) (sym same) ∙ tied_itself row_total s)

-- ---- cuts

pub keys_decide : (k q : MapKey) (a b : Front) → a ≡ front_at k.order k.values → b ≡ front_at q.order q.values → a.kind ≡ b.kind → (a.number ≡ b.number → ⊥)
    → int_cmp a.number b.number ≡ key_cmp k q
keys_decide k q a b e f same n =
    sym (fronts_decide (Some k) (Some q) a b (subst (λ g. (g ≡ no_front) ⊎ HasFront (Some k) g) (sym e) (row_front (Some k)))
    (subst (λ g. (g ≡ no_front) ⊎ HasFront (Some q) g) (sym f) (row_front (Some q))) same n)

-- ---- rows beside rows and cuts

-- both have one value of one column, and their numbers decide
record Beside (s t : Option MapKey) (a b : Front) : Type 0 where
  order : Ordered
  left : List ℕ
  right : List ℕ
  left_end : End
  right_end : End
  first : s ≡ Some (key order left left_end)
  second : t ≡ Some (key order right right_end)
  decides : column_cmp order left right ≡ int_cmp a.number b.number

both_beside : (s t : Option MapKey) (a b : Front) → HasFront s a → HasFront t b → a.kind ≡ b.kind → (a.number ≡ b.number → ⊥) → Beside s t a b
both_beside s t a b f g k n =
    let kinds : kind_of f.order ≡ kind_of g.order = sym (ap (λ z. z.kind) f.front) ∙ k ∙ ap (λ z. z.kind) g.front in
    let one : g.order ≡ f.order = sym (one_column f.order g.order f.value g.value f.number g.number f.has g.has kinds) in
    let has : plain_number f.order.tag g.value ≡ Some g.number = ap (λ o. plain_number o.tag g.value) (sym one) ∙ g.has in
    let first : a.number ≡ toward f.order.descending f.number = ap (λ z. z.number) f.front in
    let second : b.number ≡ toward f.order.descending g.number = ap (λ z. z.number) g.front ∙ ap (λ o. toward o.descending g.number) one in
    record {
      order = f.order;
      left = f.value;
      right = g.value;
      left_end = f.end;
      right_end = g.end;
      first = f.is;
      second = g.is ∙ ap (λ o. Some (key o g.value g.end)) one;
      decides = column_decides f.order.tag f.order.descending f.value g.value f.number g.number f.has has (λ e. n (first ∙ e ∙ sym second))
          ∙ (λ i. int_cmp (sym first i) (sym second i));
    }

are_beside : (s t : Option MapKey) (a b : Front) → (a ≡ no_front) ⊎ HasFront s a → (b ≡ no_front) ⊎ HasFront t b
    → a.kind ≡ b.kind → (a.number ≡ b.number → ⊥) → Beside s t a b
are_beside s t a b (inl p) (inl q) k n = absurd (n (ap (λ z. z.number) (p ∙ sym q)))
are_beside s t a b (inl p) (inr g) k n =
    absurd (no_kind g.order g.value g.number g.has (sym (ap (λ z. z.kind) g.front) ∙ sym k ∙ ap (λ z. z.kind) p))
are_beside s t a b (inr f) (inl q) k n =
    absurd (no_kind f.order f.value f.number f.has (sym (ap (λ z. z.kind) f.front) ∙ k ∙ ap (λ z. z.kind) q))
are_beside s t a b (inr f) (inr g) k n = both_beside s t a b f g k n

beside : (s t : Option MapKey) (a b : Front) → a ≡ front_of s → b ≡ front_of t → a.kind ≡ b.kind → (a.number ≡ b.number → ⊥) → Beside s t a b
beside s t a b p q k n =
    are_beside s t a b (subst (λ f. (f ≡ no_front) ⊎ HasFront s f) (sym p) (row_front s)) (subst (λ f. (f ≡ no_front) ⊎ HasFront t f) (sym q) (row_front t)) k n

-- the same for a cut that may be none
abbrev first_at : Option MapKey → Option MapKey → Bool
first_at None row = false
first_at (Some m) row = is_first m row

pub cut_is_first : (m : MapKey) (row : Option MapKey) (a b : Front) → a ≡ front_of row → b ≡ front_at m.order m.values → a.kind ≡ b.kind
    → (a.number ≡ b.number → ⊥) → is_gt (int_cmp a.number b.number) ≡ is_first m row
cut_is_first m row a b p q k n =
    let w : Beside row (Some m) a b = beside row (Some m) a b p q k n in
    let end = ends_cmp [] Row [] (side (is_after w.right_end)) [] in
    sym ((λ i. first_at (w.second i) (w.first i))
    ∙ ap (λ c. is_gt (ordering_then c end)) w.decides
    ∙ ap is_gt (differ a.number b.number end n))
