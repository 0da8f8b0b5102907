-- The first entry of which something is held, among those whose keys pass a test, is at the least of these keys.
use Rattle.std.proofs.Common.{◌≡◌, ℕ, ℤ, Bool, true, false, cond, not, ◌&&◌, Option, None, Some, is_some, IsSome, List, [], ◌∷◌, filter, refl, sym, ap, ◌∙◌, subst}
use Rattle.std.proofs.lemmas.Bool.{true≢false}
use Rattle.std.proofs.lemmas.Option.{none-some}
use Rattle.std.proofs.lemmas.Cmp.{tied_itself}
use Rattle.std.specs.Option.{unwrap_or}
use Rattle.std.specs.Cmp.{Equal-is}
use Rattle.std.specs.List.{AllByRecursion}
use Rattle.std.specs.List.Sorted.{IsStrictlySortedBy}
use Rattle.std.specs.Map.{lookup, keys_of}
use Rattle.std.specs.BTreeMap.{is_at}
use Rattle.std.specs.BTreeMap.Range.{is_from_start}
use Rattle.std.specs.declared.ops.Bound.{Bound}
use Rattle.std.specs.Ordering.{is_eq, is_gt, ordering_reverse}
use Rattle.std.specs.declared.cmp.Ordering.TheVariants.{Less}
use Rattle.cas_types.specs.Values.{bytes_cmp}
use Rattle.cas_types.proofs.OrderLaws.{bytes_orders}
use Rattle.cas_memtable.specs.Memtables.{least_held, IsNextKey, is_above}
use Rattle.cas_memtable.specs.Inner.Steps.{first_key}
use Rattle.cas_memtable.specs.declared.memtable.Held.{Held}
use Rattle.cas_memtable.specs.declared.memtable.MemPart.{MemPart}

abbrev Entries : Type 0
Entries = List (List ℕ × Held)

-- the least timestamp under a key
abbrev least_at : Entries → List ℕ → Option ℤ
least_at es key = least_held (lookup (is_at (bytes_cmp key)) es)

equal_keys : (k q : List ℕ) → is_eq (bytes_cmp k q) ≡ true → k ≡ q
equal_keys k q e = bytes_orders.ties k q ((Equal-is (bytes_cmp k q)).0 e)

abbrev Above : List ℕ → Entries → Type 0
Above k es = AllByRecursion (λ q. bytes_cmp k q ≡ Less) (keys_of es)

-- what is held stands above each key below all
held_above : (k key : List ℕ) (es : Entries) → Above k es → IsSome (least_at es key) → bytes_cmp k key ≡ Less
held_above k key [] above there = absurd (true≢false (sym there))
held_above k key (e ∷ es) above there =
    elim (is_eq (bytes_cmp key e.0)) as (λ b. is_eq (bytes_cmp key e.0) ≡ b → IsSome (least_held (cond b (Some e.1) (lookup (is_at (bytes_cmp key)) es))) → bytes_cmp k key ≡ Less) [
      | true ↦ λ hit h. ap (bytes_cmp k) (equal_keys key e.0 hit) ∙ above.0
      | false ↦ λ miss h. held_above k key es above.1 h
    ] refl there

apart : (k key : List ℕ) → bytes_cmp k key ≡ Less → is_eq (bytes_cmp key k) ≡ false
apart k key e = ap is_eq (bytes_orders.total.antisymm key k ∙ ap ordering_reverse e)

-- an entry in front matters to its own key alone
at_front : (e : List ℕ × Held) (es : Entries) (key : List ℕ) → is_eq (bytes_cmp key e.0) ≡ false → least_at (e ∷ es) key ≡ least_at es key
at_front e es key miss = ap (λ b. least_held (cond b (Some e.1) (lookup (is_at (bytes_cmp key)) es))) miss

at_itself : (e : List ℕ × Held) (es : Entries) (key : List ℕ) → is_eq (bytes_cmp key e.0) ≡ true → least_at (e ∷ es) key ≡ e.1.least
at_itself e es key hit = ap (λ b. least_held (cond b (Some e.1) (lookup (is_at (bytes_cmp key)) es))) hit

module _ (t : List ℕ → Bool) where
  abbrev tested : Entries → Entries
  tested es = filter (λ e. t e.0) es

  none_held : (es : Entries) → first_key (tested es) ≡ None → (key : List ℕ) → t key ≡ true → least_at es key ≡ None
  none_held [] none key passes = refl
  none_held (e ∷ es) none key passes =
      elim (is_eq (bytes_cmp key e.0)) as (λ b. is_eq (bytes_cmp key e.0) ≡ b → least_at (e ∷ es) key ≡ None) [
        | true ↦ λ hit.
            let kept : t e.0 ≡ true = ap t (sym (equal_keys key e.0 hit)) ∙ passes in
            at_itself e es key hit ∙ no_least e.1.least refl (ap (λ b. first_key (cond b (e ∷ tested es) (tested es))) (sym kept) ∙ none)
        | false ↦ λ miss. at_front e es key miss ∙ none_held es (behind (t e.0) none) key passes
      ] refl
    where
      no_least : (o : Option ℤ) → e.1.least ≡ o → first_key (e ∷ tested es) ≡ None → e.1.least ≡ None
      no_least None is h = is
      no_least (Some at) is h = absurd (none-some e.0 (sym h ∙ ap (λ o. cond (is_some o) (Some e.0) (first_key (tested es))) is))

      after_silent : (b : Bool) → cond b (Some e.0) (first_key (tested es)) ≡ None → first_key (tested es) ≡ None
      after_silent true h = absurd (none-some e.0 (sym h))
      after_silent false h = h

      behind : (b : Bool) → first_key (cond b (e ∷ tested es) (tested es)) ≡ None → first_key (tested es) ≡ None
      behind true h = after_silent (is_some e.1.least) h
      behind false h = h

  -- the key passes, something is held there, and it is the least such
  abbrev IsLeast : Entries → List ℕ → Type 0
  IsLeast es k = (t k ≡ true) × IsSome (least_at es k) × ((key : List ℕ) → t key ≡ true → IsSome (least_at es key) → is_gt (bytes_cmp k key) ≡ false)

  -- one in front that doesn't pass, or of which nothing is held
  skipped : (e : List ℕ × Held) (es : Entries) (k : List ℕ) → Above e.0 es → ((t e.0 ≡ true) → e.1.least ≡ None) → IsLeast es k → IsLeast (e ∷ es) k
  skipped e es k above silent least = (
    least.0,
    subst (λ o. IsSome o) (sym (at_front e es k (apart e.0 k (held_above e.0 k es above least.1)))) least.1,
    λ key passes there. elim (is_eq (bytes_cmp key e.0)) as (λ b. is_eq (bytes_cmp key e.0) ≡ b → is_gt (bytes_cmp k key) ≡ false) [
      | true ↦ λ hit. absurd (true≢false (sym there ∙ ap is_some (at_itself e es key hit ∙ silent (ap t (sym (equal_keys key e.0 hit)) ∙ passes))))
      | false ↦ λ miss. least.2 key passes (subst (λ o. IsSome o) (at_front e es key miss) there)
    ] refl,
  )

  first_held : (e : List ℕ × Held) (es : Entries) → Above e.0 es → t e.0 ≡ true → IsSome e.1.least → IsLeast (e ∷ es) e.0
  first_held e es above passes some = (
    passes,
    subst (λ o. IsSome o) (sym (at_itself e es e.0 (ap is_eq (tied_itself bytes_orders.total e.0)))) some,
    λ key kept there. elim (is_eq (bytes_cmp key e.0)) as (λ b. is_eq (bytes_cmp key e.0) ≡ b → is_gt (bytes_cmp e.0 key) ≡ false) [
      | true ↦ λ hit. ap (λ q. is_gt (bytes_cmp e.0 q)) (equal_keys key e.0 hit) ∙ ap is_gt (tied_itself bytes_orders.total e.0)
      | false ↦ λ miss. ap is_gt (held_above e.0 key es above (subst (λ o. IsSome o) (at_front e es key miss) there))
    ] refl,
  )

  least_found : (es : Entries) (k : List ℕ) → IsStrictlySortedBy bytes_cmp (keys_of es) → first_key (tested es) ≡ Some k → IsLeast es k
  unfolding IsStrictlySortedBy
  least_found [] k sorted found = absurd (none-some k found)
  least_found (e ∷ es) k sorted found =
      elim (t e.0) as (λ b. t e.0 ≡ b → first_key (cond b (e ∷ tested es) (tested es)) ≡ Some k → IsLeast (e ∷ es) k) [
        | true ↦ λ passes h. by_least e.1.least refl passes h (λ found. least_found es k sorted.1 found)
        | false ↦ λ fails h. skipped e es k sorted.0 (λ passes. absurd (true≢false (sym passes ∙ fails))) (least_found es k sorted.1 h)
      ] refl found
    where
      by_least : (o : Option ℤ) → e.1.least ≡ o → t e.0 ≡ true → first_key (e ∷ tested es) ≡ Some k → (first_key (tested es) ≡ Some k → IsLeast es k) → IsLeast (e ∷ es) k
      by_least None is passes h others =
          skipped e es k sorted.0 (λ p. is) (others (sym (ap (λ o. cond (is_some o) (Some e.0) (first_key (tested es))) is) ∙ h))
      by_least (Some at) is passes h others =
          let same : e.0 ≡ k = ap (λ o. unwrap_or o k) (sym (ap (λ o. cond (is_some o) (Some e.0) (first_key (tested es))) is) ∙ h) in
          subst (IsLeast (e ∷ es)) same (first_held e es sorted.0 passes (ap is_some is))

-- the first of those above a key
pub next_is : (m : MemPart) (after : Option (List ℕ)) (found : Option (List ℕ)) → IsStrictlySortedBy bytes_cmp (keys_of m.partitions.entries)
    → found ≡ first_key (filter (λ e. is_above after e.0) m.partitions.entries) → IsNextKey m after found
next_is m after None sorted e = none_held (is_above after) m.partitions.entries (sym e)
next_is m after (Some k) sorted e = least_found (is_above after) m.partitions.entries k sorted (sym e)

-- what lies behind a bound
pub behind_only : (start : Bound (List ℕ)) (after : Option (List ℕ)) → ((q : List ℕ) → is_from_start bytes_cmp start q ≡ is_above after q) → (es : Entries)
    → filter (λ e. is_from_start bytes_cmp start e.0 && not false) es ≡ filter (λ e. is_above after e.0) es
behind_only start after alike es = λ i. filter (λ e. (and_true (is_from_start bytes_cmp start e.0) ∙ alike e.0) i) es
  where
    and_true : (b : Bool) → (b && not false) ≡ b
    and_true true = refl
    and_true false = refl
