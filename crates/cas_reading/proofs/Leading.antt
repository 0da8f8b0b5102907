-- One block that is asked for.
use Rattle.std.proofs.Common.{◌≡◌, ℕ, [], ◌∷◌, Option, Some, None, nat_eq, refl, subst, sym}
use Rattle.std.specs.Map.{lookup}
use Rattle.lru.specs.LruCache.{lru_cache, promoted}
use Rattle.cas_reading.specs.Caching.{Kept, IsAsked, IsUsed, LeadsTo, MayKeep, one_more}

module _ {V : Type 0} where
  one_block : (place : ℕ) (k l : Kept V) → IsAsked place k l → LeadsTo k l
  one_block place k l asked = (place ∷ [], (l, asked, refl))

  -- that is kept
  pub kept_block : (place : ℕ) (k l : Kept V) (block : V) → lookup (nat_eq place) k.blocks.entries ≡ Some block → l.reads ≡ k.reads
      → l.blocks ≡ lru_cache (promoted (nat_eq place) k.blocks.entries) k.blocks.cap → LeadsTo k l
  kept_block place k l block is count after =
      one_block place k l (subst (λ (o : Option V). IsUsed place o k l) (sym is) (count, after))

  -- that isn't
  pub read_block : (place : ℕ) (k l : Kept V) → lookup (nat_eq place) k.blocks.entries ≡ None → l.reads ≡ one_more k.reads
      → MayKeep place k.blocks l.blocks → LeadsTo k l
  read_block place k l is count after =
      one_block place k l (subst (λ (o : Option V). IsUsed place o k l) (sym is) (count, after))
