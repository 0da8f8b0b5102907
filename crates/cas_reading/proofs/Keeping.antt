-- What stays kept, and that it is what the file has.
use Rattle.std.proofs.Common.{◌≡◌, ℕ, List, Option, Contains, nat_eq, inl, inr, sym, ap, ap₂, subst}
use Rattle.std.specs.Prelude.{◌⊎◌, Ok, Err, Some, OnErr, OnOk, Result}
use Rattle.std.proofs.lemmas.Bool.{eqb-true}
use Rattle.std.specs.Map.{lookup}
use Rattle.lru.specs.LruCache.{LruCache, lru_cache, promoted, put_entries}
use Rattle.lru.proofs.CallerLemmas.{Contains-lookup, Contains-put_entries, Contains-promoted}
use Rattle.cas_reading.specs.Caching.{IsFileBlock, MayKeep}

module _ {V : Type 0} where
  -- what is found under a place is kept of it
  found_in : (es : List (ℕ × V)) (k : ℕ) (v : V) → lookup (nat_eq k) es ≡ Some v → Contains es (k, v)
  found_in es k v h =
      let got = Contains-lookup (nat_eq k) es v h in
      let same : k ≡ got.0 = eqb-true k got.0 got.2 in
      subst (λ x. Contains es (x, v)) (sym same) got.1

  -- after a put there is what was there before, and what was put
  put_or_before : (old new : LruCache ℕ V) (k : ℕ) (v : V) → new ≡ lru_cache (put_entries nat_eq old k v) old.cap
      → (e : ℕ × V) → Contains new.entries e → Contains old.entries e ⊎ (e ≡ (k, v))
  put_or_before old new k v is e has = elim (Contains-put_entries nat_eq old k v e (rw (ap (λ c. c.entries) is) at has)) [
    | inl there ↦ inl there
    | inr put ↦ inr (elim put.1 [
      | inl same ↦ ap₂ (λ a b. (a, b)) same put.0
      | inr other ↦ let same : k ≡ e.0 = eqb-true k e.0 other.2 in ap₂ (λ a b. (a, b)) (sym same) put.0
    ])
  ]

  module _ (bytes : V → List ℕ) (contents : Option (List ℕ)) (end : ℕ) where
    -- all that are kept are what the file has
    abbrev pub AreTrue : LruCache ℕ V → Type 0
    AreTrue c = (e : ℕ × V) → Contains c.entries e → IsFileBlock contents end e.0 (bytes e.1)

    -- a copy of one too
    pub copy_is_true : (c : LruCache ℕ V) → AreTrue c → (place : ℕ) (block : V) → lookup (nat_eq place) c.entries ≡ Some block
        → (copy : List ℕ) → copy ≡ bytes block → IsFileBlock contents end place copy
    copy_is_true c are place block is copy same =
        subst (λ (b : List ℕ). IsFileBlock contents end place b) (sym same) (are (place, block) (found_in c.entries place block is))

    -- a use changes nothing of that
    pub true_after_use : (old new : LruCache ℕ V) (place : ℕ) → new ≡ lru_cache (promoted (nat_eq place) old.entries) old.cap → AreTrue old → AreTrue new
    true_after_use old new place is are e has =
        are e (Contains-promoted (nat_eq place) old.entries e (subst (λ (c : LruCache ℕ V). Contains c.entries e) is has))

    -- nor does a block that the file has
    true_after_put : (old new : LruCache ℕ V) (place : ℕ) (copy : V) → new ≡ lru_cache (put_entries nat_eq old place copy) old.cap
        → IsFileBlock contents end place (bytes copy) → AreTrue old → AreTrue new
    true_after_put old new place copy is one are e has = elim (put_or_before old new place copy is e has) [
      | inl there ↦ are e there
      | inr same ↦ subst (λ (x : ℕ × V). IsFileBlock contents end x.0 (bytes x.1)) (sym same) one
    ]

    module _ {X E : Type 0} (old new : LruCache ℕ V) (place : ℕ) (body : List ℕ) where
      -- whether it was put or not
      pub true_after : (r : Result X E)
          → OnOk r ((copy : V) × (bytes copy ≡ body) × (new ≡ lru_cache (put_entries nat_eq old place copy) old.cap)) → OnErr r (new ≡ old)
          → IsFileBlock contents end place body → AreTrue old → AreTrue new
      true_after (Ok x) put same one are =
          true_after_put old new place put.0 put.2 (subst (λ (b : List ℕ). IsFileBlock contents end place b) (sym put.1) one) are
      true_after (Err x) put same one are = subst AreTrue (sym same) are

      pub may_keep : (r : Result X E)
          → OnOk r ((copy : V) × (bytes copy ≡ body) × (new ≡ lru_cache (put_entries nat_eq old place copy) old.cap)) → OnErr r (new ≡ old)
          → MayKeep place old new
      may_keep (Ok x) put same = inr (put.0, put.2)
      may_keep (Err x) put same = inl same
