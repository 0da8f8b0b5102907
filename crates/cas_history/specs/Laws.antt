-- What the lists have to do with each other.
use Rattle.std.specs.Prelude.{◌≡◌, ℕ, ◌+◌, ◌<◌, ◌≤◌, List, [], ◌∷◌, length, Bool, false, ◌==◌}
use Rattle.std.specs.List.{fold, filter, flat_map}
use Rattle.cas_history.specs.Hands.{numbers}
use Rattle.cas_history.specs.declared.item.Item.{Item}
use Rattle.cas_history.specs.declared.item.Item.TheVariants.{Found, Wrote}
use Rattle.cas_history.specs.Items.{first_diary}

module _ {E : Type 0} where
  -- whether an entry is a mutation of this session (own)
  abbrev pub is_write_of : ℕ → Item E → Bool
  is_write_of session (Wrote _ by _ _ _) = by == session
  is_write_of session other = false

  -- whether an entry is a mutation of this shard (own)
  abbrev pub is_write_in : ℕ → Item E → Bool
  is_write_in shard (Wrote there _ _ _ _) = there == shard
  is_write_in shard other = false

  -- a session's mutations (own)
  abbrev pub writes_of : ℕ → List (Item E) → List (Item E)
  writes_of session list = filter (is_write_of session) list

  -- a shard's mutations (own)
  abbrev pub writes_in : ℕ → List (Item E) → List (Item E)
  writes_in shard list = filter (is_write_in shard) list

  abbrev pub call_of : Item E → List ℕ
  call_of (Wrote _ _ call _ _) = call ∷ []
  call_of other = []

  -- which of its sessions' writes mutations are (own)
  abbrev pub calls_of : List (Item E) → List ℕ
  calls_of list = flat_map call_of list

  abbrev pub number_of : Item E → List ℕ
  number_of (Wrote _ _ _ number _) = number ∷ []
  number_of other = []

  -- the numbers of mutations in their shards (own)
  abbrev pub numbers_of : List (Item E) → List ℕ
  numbers_of list = flat_map number_of list

  abbrev pub found_after : ℕ → Item E → ℕ
  found_after n (Found _ number) = number
  found_after n other = n

  -- what the opening found of a list, else 0 (own)
  abbrev pub found : List (Item E) → ℕ
  found list = fold found_after 0 list

  -- One history: the room's list of mutations, the list of each shard, and the diary of each session (own).
  pub record Stands (room : List (Item E)) (shard session : ℕ → List (Item E)) : Type 0 where
    -- a session's mutations are those of its diary, and no others
    pub sessions : (s : ℕ) → first_diary ≤ s → writes_of s room ≡ writes_of s (session s)
    -- each once and in its order: they are its first write, its second, and so on
    pub calls : (s : ℕ) → first_diary ≤ s → calls_of (writes_of s room) ≡ numbers 1 (length (writes_of s room))
    -- a shard's mutations are those of its list
    pub shards : (s : ℕ) → s < 16 → writes_in s room ≡ writes_in s (shard s)
    -- each once and in its order: they are numbered by one, from one above the last that the opening found
    pub numbers : (s : ℕ) → s < 16 → numbers_of (writes_in s room) ≡ numbers (found (shard s) + 1) (length (writes_in s room))
