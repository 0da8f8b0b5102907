-- How far a partition's blocks were read, and what was seen of them (own).
use Rattle.std.specs.Prelude.{◌≡◌, ℕ, ◌+◌, ◌*◌, ◌≤◌, Bool, true, false, List, [], ◌∷◌, ◌++◌, length, vec_len, Option, None, Some, is_none}
use Rattle.std.specs.List.{All, flat_map}
use Rattle.cas_codec.specs.Reading.{Left}
use Rattle.cas_atoms.specs.declared.atom.Atom.{Atom}
use Rattle.cas_streams.specs.Streams.{IsThere}
use Rattle.cas_streams.specs.declared.fragment.Fragment.{Fragment}
use Rattle.cas_streams.specs.declared.fragment.Fragment.TheVariants as fragment
use Rattle.cas_facts.specs.Facts.{AreFactsSoFar}
use Rattle.cas_facts.specs.Told.{told}
use Rattle.cas_facts.specs.declared.facts.Tally.{Tally}
use Rattle.cas_fragments.specs.Spelling.{block_bytes}
use Rattle.cas_fragments.specs.Blocks.{Reached, nowhere, past_all, last_place, is_full, blocks_bytes, says_head}
use Rattle.cas_fragments.specs.declared.heads.Head.{Head}
use Rattle.cas_fragments.specs.Allowed.{AreShort}
use Rattle.cas_fragments.specs.Laws.{joined}
use Rattle.cas_index.specs.Allowed.{HasRoom}
use Rattle.cas_tables.specs.Places.{block_entries}
use Rattle.cas_blocks.specs.Reading.{left_at}
use Rattle.cas_verify.specs.declared.blocks.Walk.{Walk}

-- how far the fragments before the next block came
abbrev pub reached : Walk → Reached
reached w = record { last = last_place w.last; force = w.force }

-- the facts of whatever was seen before are then those of it and of these atoms
abbrev pub Sees : Tally → List Atom → Tally → Type 0
Sees s atoms t = (A : List Atom) → AreFactsSoFar A s.facts → AreFactsSoFar (A ++ atoms) t.facts

-- what the index is to tell has room in its fields: each block but the last has 4,100 bytes with its length; and the end stands where nothing is in force
pub record IsSound (w : Walk) : Type 0 where
  pub rooms : All HasRoom w.entries.items
  pub few : 4100 * vec_len w.entries ≤ w.place + 4100
  pub full : w.goes_on ≡ true → 4100 * vec_len w.entries ≤ w.place
  pub closed : w.ends ≡ true → w.force ≡ None

-- before the first block of a partition, behind its head
pub record IsBegun (h : Head) (place : ℕ) (seen : Tally) (w : Walk) : Type 0 where
  pub place_is : w.place ≡ place
  pub ends : w.ends ≡ says_head (h.key, h.top, h.columns)
  pub goes_on : w.goes_on ≡ true
  pub reached_is : reached w ≡ nowhere
  pub entries : w.entries.items ≡ []
  pub seen_is : w.seen ≡ seen

-- a row or a marker, whose cut has room in its fields
abbrev pub HasCut : Fragment → Type 0
HasCut (fragment.Static cs) = ⊥
HasCut (fragment.Row r) = AreShort r.clustering.values
HasCut (fragment.Marker cut d) = AreShort cut.prefix

-- fragments of which the first is such
abbrev pub IsFirst : List Fragment → Type 0
IsFirst [] = ⊥
IsFirst (f ∷ fs) = HasCut f

-- a block further
pub record Goes (w v : Walk) (fs : List Fragment) : Type 0 where
  pub some : IsThere fs
  pub reached_is : reached v ≡ past_all (reached w) fs
  pub ends : v.ends ≡ is_none (past_all (reached w) fs).force
  pub goes_on : v.goes_on ≡ is_full fs
  pub place : v.place ≡ w.place + length (block_bytes fs)
  pub entries : v.entries.items ≡ w.entries.items ++ block_entries w.place w.force (fs ∷ [])
  pub seen : Sees w.seen (flat_map told fs) v.seen

-- behind the end
pub record IsOver (w v : Walk) : Type 0 where
  pub closed : w.force ≡ None
  pub place : v.place ≡ w.place + 4
  pub entries : v.entries.items ≡ w.entries.items
  pub seen : v.seen ≡ w.seen

abbrev pub StepIs : Walk → Walk → Bool → Option (List Fragment) → Type 0
StepIs w v true None = ⊥
StepIs w v true (Some fs) = Goes w v fs
StepIs w v false None = IsOver w v
StepIs w v false (Some fs) = ⊥

-- one step: a block, or the end
pub record Steps (end : ℕ) (file : List ℕ) (w v : Walk) (more : Bool) (p : Option (List Fragment) × Left) : Type 0 where
  pub left : p.1 ≡ left_at file end v.place
  pub step : StepIs w v more p.0

-- all blocks up to the partition's end, and that
pub record Went (end : ℕ) (file : List ℕ) (w v : Walk) (p : List (List Fragment) × Left) : Type 0 where
  pub left : p.1 ≡ left_at file end v.place
  pub place : v.place ≡ w.place + length (blocks_bytes p.0)
  pub entries : v.entries.items ≡ w.entries.items ++ block_entries w.place w.force p.0
  pub seen : Sees w.seen (flat_map told (joined p.0)) v.seen
  pub closed : (past_all (reached w) (joined p.0)).force ≡ None
