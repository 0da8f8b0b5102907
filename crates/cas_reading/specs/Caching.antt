-- Which raw blocks of a file are kept, by their places, and what becomes of them as blocks are asked for one after another.
-- Own.
use Rattle.std.specs.Prelude.{◌≡◌, ◌⊎◌, ℕ, ◌+◌, ◌-◌, ◌^◌, ◌≤◌, min, nat_eq, List, [], ◌∷◌, length, Option, None, Some}
use Rattle.std.specs.Map.{lookup}
use Rattle.lru.specs.LruCache.{LruCache, lru_cache, promoted, put_entries}
use Rattle.cas_blocks.specs.Origins.{IsBlockAt}

-- the block at this place is what the file of these bytes has there, where it tells them, and ends before the partitions do
pub record IsFileBlock (contents : Option (List ℕ)) (end place : ℕ) (body : List ℕ) : Type 0 where
  pub there : (file : List ℕ) → contents ≡ Some file → IsBlockAt file end place body
  pub within : place + 4 + length body ≤ end

-- the blocks that are kept, the one used last first, and at most how many there may be; how often one was asked for that wasn't kept
pub record Kept (V : Type 0) : Type 0 where
  pub blocks : LruCache ℕ V
  pub reads : ℕ

-- one more; at the greatest u64 the count stands
abbrev pub one_more : ℕ → ℕ
one_more n = min (n + 1) (2 ^ 64 - 1)

-- it is kept, in the place of the one used longest ago where there are as many as there may be; or nothing changes, where it isn't there or memory is short
abbrev pub MayKeep : {V : Type 0} → ℕ → LruCache ℕ V → LruCache ℕ V → Type 0
MayKeep {V} place before after = (after ≡ before) ⊎ ((block : V) × (after ≡ lru_cache (put_entries nat_eq before place block) before.cap))

-- A block that is kept isn't read: the count stays, and it is the one used last. Any other is read, which counts, and then it may be kept.
abbrev pub IsUsed : {V : Type 0} → ℕ → Option V → Kept V → Kept V → Type 0
IsUsed place (Some block) before after =
    (after.reads ≡ before.reads) × (after.blocks ≡ lru_cache (promoted (nat_eq place) before.blocks.entries) before.blocks.cap)
IsUsed place None before after = (after.reads ≡ one_more before.reads) × MayKeep place before.blocks after.blocks

-- the block at this place is asked for
abbrev pub IsAsked : {V : Type 0} → ℕ → Kept V → Kept V → Type 0
IsAsked place before after = IsUsed place (lookup (nat_eq place) before.blocks.entries) before after

-- those at these places are, one after another
abbrev pub AreAsked : {V : Type 0} → List ℕ → Kept V → Kept V → Type 0
AreAsked [] before after = before ≡ after
AreAsked {V} (place ∷ places) before after = (between : Kept V) × IsAsked place before between × AreAsked places between after

-- those at some places are
abbrev pub LeadsTo : {V : Type 0} → Kept V → Kept V → Type 0
LeadsTo before after = (places : List ℕ) × AreAsked places before after

-- what is kept of a cache
abbrev pub kept_of : {V : Type 0} → LruCache ℕ V → ℕ → Kept V
kept_of blocks reads = record { blocks = blocks; reads = reads }
