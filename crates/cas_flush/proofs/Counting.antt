-- How many keys are left above one that was reached.
use Rattle.std.proofs.Common.{◌≡◌, inl, inr, ◌||◌, ℕ, ◌<◌, ◌≤◌, Bool, true, false, cond, Option, None, Some, is_some, List, [], ◌∷◌, ◌++◌, filter, length, refl, sym, ap, ◌∙◌, arith}
use Rattle.std.proofs.lemmas.Bool.{true≢false}
use Rattle.std.proofs.lemmas.Cmp.{tied_itself}
use Rattle.std.specs.Cmp.{Equal-is}
use Rattle.std.specs.List.{flat_map}
use Rattle.std.specs.Map.{lookup, keys_of}
use Rattle.std.specs.BTreeMap.{is_at}
use Rattle.std.specs.Ordering.{is_eq, is_lt}
use Rattle.std.specs.declared.cmp.Ordering.{Ordering}
use Rattle.std.specs.declared.cmp.Ordering.TheVariants.{Less, Equal, Greater}
use Rattle.cas_types.specs.Values.{bytes_cmp}
use Rattle.cas_types.proofs.OrderLaws.{bytes_orders}
use Rattle.cas_laws.specs.Given.{Has}
use Rattle.cas_memtable.specs.Memtables.{is_above, least_held, least_of}
use Rattle.cas_memtable.specs.declared.memtable.Held.{Held}
use Rattle.cas_memtable.specs.declared.memtable.MemPart.{MemPart}
use Rattle.cas_memtable.specs.Kept.{IsNextKey, has_key}

abbrev Keys : Type 0
Keys = List (List ℕ)

-- the keys of the partitions of all memtables
abbrev pub all_keys : List MemPart → Keys
all_keys ms = flat_map (λ m. keys_of m.partitions.entries) ms

-- so many of them stand above one
abbrev pub left_above : List MemPart → Option (List ℕ) → ℕ
left_above ms after = length (filter (is_above after) (all_keys ms))

-- ---- a key that is held is one of them

has_front : {X : Type 0} (xs ys : List X) (x : X) → Has xs x → Has (xs ++ ys) x
has_front [] ys x h = absurd h
has_front (z ∷ xs) ys x (inl e) = inl e
has_front (z ∷ xs) ys x (inr h) = inr (has_front xs ys x h)

has_back : {X : Type 0} (xs ys : List X) (x : X) → Has ys x → Has (xs ++ ys) x
has_back [] ys x h = h
has_back (z ∷ xs) ys x h = inr (has_back xs ys x h)

equal_keys : (k q : List ℕ) → is_eq (bytes_cmp k q) ≡ true → k ≡ q
equal_keys k q e = bytes_orders.ties k q ((Equal-is (bytes_cmp k q)).0 e)

found_key : (key : List ℕ) (es : List (List ℕ × Held)) → is_some (least_held (lookup (is_at (bytes_cmp key)) es)) ≡ true → Has (keys_of es) key
found_key key [] e = absurd (true≢false (sym e))
found_key key (h ∷ es) e =
    elim (is_eq (bytes_cmp key h.0)) as (λ b. is_eq (bytes_cmp key h.0) ≡ b → is_some (least_held (cond b (Some h.1) (lookup (is_at (bytes_cmp key)) es))) ≡ true → Has (keys_of (h ∷ es)) key) [
      | true ↦ λ hit s. inl (sym (equal_keys key h.0 hit))
      | false ↦ λ miss s. inr (found_key key es s)
    ] refl e

has_held : (key : List ℕ) (ms : List MemPart) → has_key ms key ≡ true → Has (all_keys ms) key
has_held key [] e = absurd (true≢false (sym e))
has_held key (m ∷ ms) e = go (λ h. has_held key ms h) (is_some (least_of m key)) refl e
  where
    go : (has_key ms key ≡ true → Has (all_keys ms) key) → (b : Bool) → is_some (least_of m key) ≡ b → (b || has_key ms key) ≡ true → Has (keys_of m.partitions.entries ++ all_keys ms) key
    go rest true s h = has_front (keys_of m.partitions.entries) (all_keys ms) key (found_key key m.partitions.entries s)
    go rest false s h = has_back (keys_of m.partitions.entries) (all_keys ms) key (rest h)

-- ---- fewer pass a stricter test

module _ {X : Type 0} (t u : X → Bool) (stricter : (x : X) → u x ≡ true → t x ≡ true) where
  no_more_pass : (xs : List X) → length (filter u xs) ≤ length (filter t xs)
  no_more_pass [] = omega arith
  no_more_pass (x ∷ xs) = go (no_more_pass xs) (u x) (t x) refl refl
    where
      go : length (filter u xs) ≤ length (filter t xs) → (b c : Bool) → u x ≡ b → t x ≡ c → length (cond b (x ∷ filter u xs) (filter u xs)) ≤ length (cond c (x ∷ filter t xs) (filter t xs))
      go rest true true e f = omega (arith, rest)
      go rest true false e f = absurd (true≢false (sym (stricter x e) ∙ f))
      go rest false true e f = omega (arith, rest)
      go rest false false e f = rest

  fewer_pass : (xs : List X) (x : X) → Has xs x → t x ≡ true → u x ≡ false → length (filter u xs) < length (filter t xs)
  fewer_pass [] x h e f = absurd h
  fewer_pass (y ∷ xs) x (inl same) e f = go (u y) (t y) refl refl
    where
      go : (b c : Bool) → u y ≡ b → t y ≡ c → length (cond b (y ∷ filter u xs) (filter u xs)) < length (cond c (y ∷ filter t xs) (filter t xs))
      go true c g h = absurd (true≢false (sym g ∙ ap u same ∙ f))
      go false true g h = omega (arith, no_more_pass xs)
      go false false g h = absurd (true≢false (sym e ∙ ap t (sym same) ∙ h))
  fewer_pass (y ∷ xs) x (inr has) e f = go (fewer_pass xs x has e f) (u y) (t y) refl refl
    where
      go : length (filter u xs) < length (filter t xs) → (b c : Bool) → u y ≡ b → t y ≡ c → length (cond b (y ∷ filter u xs) (filter u xs)) < length (cond c (y ∷ filter t xs) (filter t xs))
      go rest true true g h = omega (arith, rest)
      go rest true false g h = absurd (true≢false (sym (stricter y g) ∙ h))
      go rest false true g h = omega (arith, rest)
      go rest false false g h = rest

-- ---- the next key

lt_less : (o : Ordering) → is_lt o ≡ true → o ≡ Less
lt_less Less e = refl
lt_less Equal e = absurd (true≢false (sym e))
lt_less Greater e = absurd (true≢false (sym e))

above_on : (after : Option (List ℕ)) (next k : List ℕ) → is_above after next ≡ true → is_above (Some next) k ≡ true → is_above after k ≡ true
above_on None next k e f = refl
above_on (Some a) next k e f = ap is_lt (bytes_orders.total.trans a next k (lt_less (bytes_cmp a next) e) (lt_less (bytes_cmp next k) f))

pub fewer_left : (ms : List MemPart) (after : Option (List ℕ)) (next : List ℕ) → IsNextKey ms after (Some next) → left_above ms (Some next) < left_above ms after
fewer_left ms after next is =
    fewer_pass (is_above after) (is_above (Some next)) (λ k. above_on after next k is.0) (all_keys ms) next (has_held next ms is.1) is.0
    (ap is_lt (tied_itself bytes_orders.total next))
