-- What two lists woven into one keep: a fact of each element, the order of their keys, and the greatest of what they give.
use Rattle.std.proofs.Common.{◌≡◌, Bool, true, false, cond, Option, None, List, [], ◌∷◌, ◌++◌, map, filter, refl, sym, ap, ◌∙◌, subst}
use Rattle.std.specs.List.{AllByRecursion}
use Rattle.std.specs.List.Sorted.{IsStrictlySortedBy}
use Rattle.std.specs.FinMap.Entries.{by_order}
use Rattle.std.specs.declared.cmp.Ordering.{Ordering}
use Rattle.std.specs.declared.cmp.Ordering.TheVariants.{Less, Equal, Greater}
use Rattle.std.specs.Ordering.{ordering_reverse}
use Rattle.std.specs.Cmp.{IsTotalOrder}
use Rattle.cas_types.specs.Orders.{Orders}
use Rattle.cas_atoms.specs.Greatest.{greater, greatest}
use Rattle.cas_atoms.proofs.GreatestLemmas.{greater_assoc, greater_comm}
use Rattle.cas_streams.specs.Weaving.{Weave, rights, among, woven}

pub by_case : {A : Type 0} (P : A → Type 0) (r : Ordering) (a b c : A) → (r ≡ Less → P a) → (r ≡ Equal → P b) → (r ≡ Greater → P c) → P (by_order r a b c)
by_case P Less a b c f g h = f refl
by_case P Equal a b c f g h = g refl
by_case P Greater a b c f g h = h refl

-- ---- a fact of each

-- where it rests on what is known of the elements passed
module _ {S X : Type 0} (w : Weave S X) (I : S → Type 0) (P : X → Type 0) (l : (s : S) (x : X) → I s → P x → P (w.left s x)) (r : (s : S) (y : X) → I s → P y → P (w.right s y))
    (b : (s : S) (x y : X) → w.order x y ≡ Equal → P x → P y → P (w.both s x y))
    (past_l : (s : S) (x : X) → I s → P x → I (w.past_left s x)) (past_r : (s : S) (y : X) → I s → P y → I (w.past_right s y)) where
  rights_known : (s : S) → I s → (ys : List X) → AllByRecursion P ys → AllByRecursion P (rights w s ys)
  rights_known s i [] q = tt
  rights_known s i (y ∷ ys) q = (r s y i q.0, rights_known (w.past_right s y) (past_r s y i q.0) ys q.1)

  among_known : (x : X) (others : S → List X → List X) → P x → ((t : S) → I t → (zs : List X) → AllByRecursion P zs → AllByRecursion P (others t zs))
      → (s : S) → I s → (ys : List X) → AllByRecursion P ys → AllByRecursion P (among w x others s ys)
  among_known x others p h s i [] q = (l s x i p, h (w.past_left s x) (past_l s x i p) [] tt)
  among_known x others p h s i (y ∷ ys) q =
      by_case (λ zs. AllByRecursion P zs) (w.order x y) (w.left s x ∷ others (w.past_left s x) (y ∷ ys)) (w.both s x y ∷ others (w.past_right (w.past_left s x) y) ys) (w.right s y ∷ among w x others (w.past_right s y) ys)
      (λ e. (l s x i p, h (w.past_left s x) (past_l s x i p) (y ∷ ys) q))
      (λ e. (b s x y e p q.0, h (w.past_right (w.past_left s x) y) (past_r (w.past_left s x) y (past_l s x i p) q.0) ys q.1))
      (λ e. (r s y i q.0, among_known x others p h (w.past_right s y) (past_r s y i q.0) ys q.1))

  pub woven_known : (s : S) → I s → (xs ys : List X) → AllByRecursion P xs → AllByRecursion P ys → AllByRecursion P (woven w s xs ys)
  woven_known s i [] ys p q = rights_known s i ys q
  woven_known s i (x ∷ xs) ys p q = among_known x (λ t zs. woven w t xs zs) p.0 (λ t j zs a. woven_known t j xs zs p.1 a) s i ys q

pub woven_all : {S X : Type 0} (w : Weave S X) (P : X → Type 0) (l : (s : S) (x : X) → P x → P (w.left s x)) (r : (s : S) (y : X) → P y → P (w.right s y))
    (b : (s : S) (x y : X) → w.order x y ≡ Equal → P x → P y → P (w.both s x y))
    → (s : S) (xs ys : List X) → AllByRecursion P xs → AllByRecursion P ys → AllByRecursion P (woven w s xs ys)
woven_all w P l r b s xs ys p q =
    woven_known w (λ t. Unit {0}) P (λ t x i h. l t x h) (λ t y i h. r t y h) b (λ t x i h. tt) (λ t y i h. tt) s tt xs ys p q

-- ---- the order of keys

-- each is below all that follow
abbrev pub Ascend : {X K : Type 0} → (K → K → Ordering) → (X → K) → List X → Type 0
Ascend R key [] = Unit {0}
Ascend R key (x ∷ xs) = AllByRecursion (λ y. R (key x) (key y) ≡ Less) xs × Ascend R key xs

module _ {X K : Type 0} (R : K → K → Ordering) (key : X → K) where
  each_key : (k : K) (xs : List X) → AllByRecursion (λ y. R k (key y) ≡ Less) xs → AllByRecursion (λ q. R k q ≡ Less) (map key xs)
  each_key k [] a = tt
  each_key k (x ∷ xs) a = (a.0, each_key k xs a.1)

  of_keys : (k : K) (xs : List X) → AllByRecursion (λ q. R k q ≡ Less) (map key xs) → AllByRecursion (λ y. R k (key y) ≡ Less) xs
  of_keys k [] a = tt
  of_keys k (x ∷ xs) a = (a.0, of_keys k xs a.1)

  pub keys_ascend : (xs : List X) → Ascend R key xs → IsStrictlySortedBy R (map key xs)
  unfolding IsStrictlySortedBy
  keys_ascend [] a = tt
  keys_ascend (x ∷ xs) a = (each_key (key x) xs a.0, keys_ascend xs a.1)

  pub ascend_by_keys : (xs : List X) → IsStrictlySortedBy R (map key xs) → Ascend R key xs
  unfolding IsStrictlySortedBy
  ascend_by_keys [] a = tt
  ascend_by_keys (x ∷ xs) a = (of_keys (key x) xs a.0, ascend_by_keys xs a.1)

pub all_so : {X : Type 0} (P Q : X → Type 0) → ((x : X) → P x → Q x) → (xs : List X) → AllByRecursion P xs → AllByRecursion Q xs
all_so P Q h [] a = tt
all_so P Q h (x ∷ xs) a = (h x a.0, all_so P Q h xs a.1)

pub all_and : {X : Type 0} (P : X → Type 0) (xs ys : List X) → AllByRecursion P xs → AllByRecursion P ys → AllByRecursion P (xs ++ ys)
all_and P [] ys a b = b
all_and P (x ∷ xs) ys a b = (a.0, all_and P xs ys a.1 b)

pub all_of : {X : Type 0} (P : X → Type 0) (xs ys : List X) → AllByRecursion P (xs ++ ys) → AllByRecursion P xs × AllByRecursion P ys
all_of P [] ys a = (tt, a)
all_of P (x ∷ xs) ys a = let (b, c) = all_of P xs ys a.1 in ((a.0, b), c)

pub all_filter : {X : Type 0} (P : X → Type 0) (t : X → Bool) (xs : List X) → AllByRecursion P xs → AllByRecursion P (filter t xs)
all_filter P t [] a = tt
all_filter P t (x ∷ xs) a =
    elim (t x) as (λ b. AllByRecursion P (cond b (x ∷ filter t xs) (filter t xs))) [
      | true ↦ (a.0, all_filter P t xs a.1)
      | false ↦ all_filter P t xs a.1
    ]

module _ {S X K : Type 0} (w : Weave S X) (R : K → K → Ordering) (o : IsTotalOrder R) (key : X → K) (Fine : X → Type 0)
    (as_keys : (x y : X) → Fine x → Fine y → w.order x y ≡ R (key x) (key y))
    (l : (s : S) (x : X) → key (w.left s x) ≡ key x) (r : (s : S) (y : X) → key (w.right s y) ≡ key y) (b : (s : S) (x y : X) → key (w.both s x y) ≡ key x) where
  abbrev Above : K → X → Type 0
  Above k x = R k (key x) ≡ Less

  all_above : (k : K) (s : S) (xs ys : List X) → AllByRecursion (Above k) xs → AllByRecursion (Above k) ys → AllByRecursion (Above k) (woven w s xs ys)
  all_above k s xs ys p q = woven_all w (Above k) (λ t x a. ap (R k) (l t x) ∙ a) (λ t y a. ap (R k) (r t y) ∙ a) (λ t x y e a c. ap (R k) (b t x y) ∙ a) s xs ys p q

  all_among : (k : K) (s : S) (x : X) (xs ys : List X) → AllByRecursion (Above k) (x ∷ xs) → AllByRecursion (Above k) ys → AllByRecursion (Above k) (among w x (λ t zs. woven w t xs zs) s ys)
  all_among k s x xs ys p q = all_above k s (x ∷ xs) ys p q

  -- what is above a key is above each that is below it, and above each that ties with it
  farther : (j k : K) → R j k ≡ Less → (xs : List X) → AllByRecursion (Above k) xs → AllByRecursion (Above j) xs
  farther j k e xs a = all_so (Above k) (Above j) (λ x f. o.trans j k (key x) e f) xs a

  likewise : (j k : K) → R j k ≡ Equal → (xs : List X) → AllByRecursion (Above k) xs → AllByRecursion (Above j) xs
  likewise j k e xs a = all_so (Above k) (Above j) (λ x f. o.congr j k (key x) e ∙ f) xs a

  renamed : (j k : K) → j ≡ k → (xs : List X) → AllByRecursion (Above k) xs → AllByRecursion (Above j) xs
  renamed j k e xs a = subst (λ i. AllByRecursion (Above i) xs) (sym e) a

  abbrev Rises : List X → Type 0
  Rises xs = Ascend R key xs

  rights_ascend : (s : S) (ys : List X) → Rises ys → Rises (rights w s ys)
  rights_ascend s [] a = tt
  rights_ascend s (y ∷ ys) a = (renamed (key (w.right s y)) (key y) (r s y) (rights w (w.past_right s y) ys) (all_above (key y) (w.past_right s y) [] ys tt a.0), rights_ascend (w.past_right s y) ys a.1)

  among_ascend : (x : X) (xs : List X) → Fine x → AllByRecursion (Above (key x)) xs → ((t : S) (zs : List X) → AllByRecursion Fine zs → Rises zs → Rises (woven w t xs zs))
      → (s : S) (ys : List X) → AllByRecursion Fine ys → Rises ys → Rises (among w x (λ t zs. woven w t xs zs) s ys)
  among_ascend x xs f above h s [] fine a =
      (renamed (key (w.left s x)) (key x) (l s x) (woven w (w.past_left s x) xs []) (all_above (key x) (w.past_left s x) xs [] above tt), h (w.past_left s x) [] tt tt)
  among_ascend x xs f above h s (y ∷ ys) fine a =
      by_case Rises (w.order x y) (w.left s x ∷ woven w (w.past_left s x) xs (y ∷ ys)) (w.both s x y ∷ woven w (w.past_right (w.past_left s x) y) xs ys) (w.right s y ∷ among w x (λ t zs. woven w t xs zs) (w.past_right s y) ys)
      (λ e.
      let below : R (key x) (key y) ≡ Less = sym (as_keys x y f fine.0) ∙ e in (
        renamed (key (w.left s x)) (key x) (l s x) (woven w (w.past_left s x) xs (y ∷ ys))
            (all_above (key x) (w.past_left s x) xs (y ∷ ys) above (below, farther (key x) (key y) below ys a.0)),
        h (w.past_left s x) (y ∷ ys) fine a,
      ))
      (λ e.
      let t : S = w.past_right (w.past_left s x) y in (
        renamed (key (w.both s x y)) (key x) (b s x y) (woven w t xs ys)
            (all_above (key x) t xs ys above (likewise (key x) (key y) (sym (as_keys x y f fine.0) ∙ e) ys a.0)),
        h t ys fine.1 a.1,
      ))
      (λ e.
      let below : R (key y) (key x) ≡ Less = o.antisymm (key y) (key x) ∙ ap ordering_reverse (sym (as_keys x y f fine.0) ∙ e) in (
        renamed (key (w.right s y)) (key y) (r s y) (among w x (λ t zs. woven w t xs zs) (w.past_right s y) ys)
            (all_among (key y) (w.past_right s y) x xs ys (below, farther (key y) (key x) below xs above) a.0),
        among_ascend x xs f above h (w.past_right s y) ys fine.1 a.1,
      ))

  pub woven_ascend : (s : S) (xs ys : List X) → AllByRecursion Fine xs → AllByRecursion Fine ys → Ascend R key xs → Ascend R key ys → Ascend R key (woven w s xs ys)
  woven_ascend s [] ys f g p q = rights_ascend s ys q
  woven_ascend s (x ∷ xs) ys f g p q = among_ascend x xs f.0 p.0 (λ t zs h a. woven_ascend t xs zs f.1 h p.1 a) s ys g q

-- ---- the greatest

module _ {Y : Type 0} {cmp : Y → Y → Ordering} (o : Orders cmp) where
  -- what is greatest first, may as well come later
  pub later_first : (a b c : Option Y) → greater cmp b (greater cmp a c) ≡ greater cmp a (greater cmp b c)
  later_first a b c = sym (greater_assoc o b a c) ∙ ap (λ d. greater cmp d c) (greater_comm o b a) ∙ greater_assoc o a b c

  pub two_by_two : (a b c d : Option Y) → greater cmp (greater cmp a b) (greater cmp c d) ≡ greater cmp (greater cmp a c) (greater cmp b d)
  two_by_two a b c d = greater_assoc o a b (greater cmp c d) ∙ ap (greater cmp a) (later_first c b d) ∙ sym (greater_assoc o a c (greater cmp b d))

  module _ {S X : Type 0} (w : Weave S X) (v : X → Option Y) (l : (s : S) (x : X) → v (w.left s x) ≡ v x) (r : (s : S) (y : X) → v (w.right s y) ≡ v y)
      (b : (s : S) (x y : X) → w.order x y ≡ Equal → v (w.both s x y) ≡ greater cmp (v x) (v y)) where
    rights_give : (s : S) (ys : List X) → greatest cmp v (rights w s ys) ≡ greatest cmp v ys
    rights_give s [] = refl
    rights_give s (y ∷ ys) = λ i. greater cmp (r s y i) (rights_give (w.past_right s y) ys i)

    among_give : (x : X) (others : S → List X → List X) (g : Option Y) → ((t : S) (zs : List X) → greatest cmp v (others t zs) ≡ greater cmp g (greatest cmp v zs))
        → (s : S) (ys : List X) → greatest cmp v (among w x others s ys) ≡ greater cmp (greater cmp (v x) g) (greatest cmp v ys)
    among_give x others g h s [] = (λ i. greater cmp (l s x i) (h (w.past_left s x) [] i)) ∙ sym (greater_assoc o (v x) g None)
    among_give x others g h s (y ∷ ys) =
        by_case (λ zs. greatest cmp v zs ≡ greater cmp (greater cmp (v x) g) (greater cmp (v y) (greatest cmp v ys))) (w.order x y)
        (w.left s x ∷ others (w.past_left s x) (y ∷ ys)) (w.both s x y ∷ others (w.past_right (w.past_left s x) y) ys) (w.right s y ∷ among w x others (w.past_right s y) ys)
        (λ e. (λ i. greater cmp (l s x i) (h (w.past_left s x) (y ∷ ys) i)) ∙ sym (greater_assoc o (v x) g (greater cmp (v y) (greatest cmp v ys))))
        (λ e. (λ i. greater cmp (b s x y e i) (h (w.past_right (w.past_left s x) y) ys i)) ∙ two_by_two (v x) (v y) g (greatest cmp v ys))
        (λ e. (λ i. greater cmp (r s y i) (among_give x others g h (w.past_right s y) ys i)) ∙ later_first (greater cmp (v x) g) (v y) (greatest cmp v ys))

    pub woven_gives : (s : S) (xs ys : List X) → greatest cmp v (woven w s xs ys) ≡ greater cmp (greatest cmp v xs) (greatest cmp v ys)
    woven_gives s [] ys = rights_give s ys
    woven_gives s (x ∷ xs) ys = among_give x (λ t zs. woven w t xs zs) (greatest cmp v xs) (λ t zs. woven_gives t xs zs) s ys
