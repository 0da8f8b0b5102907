-- Which lists an entry of the history stands in, and what it may follow there.
use Rattle.std.specs.Prelude.{◌≡◌, ◌≢◌, ℕ, ◌+◌, ◌/◌, ◌%◌, ◌<◌, ◌≤◌, List, [], ◌∷◌, true, None, Some}
use Rattle.cas_history.specs.Log.{Rules, Each, Has, part}
use Rattle.cas_history.specs.declared.item.Item.{Item}
use Rattle.cas_history.specs.declared.item.Item.TheVariants.{Found, Stood, Wrote, Purged, Faulted, Read, Rose, Drew, Began, Ended, Changed}
use Rattle.cas_history.specs.Last.{last_number, last_call, last_fault, last_committed, last_first, last_moment, last_file}
use Rattle.cas_history.specs.Last.{runs, holds, used, files_of, frontier_of}

-- the room's list of all mutations (own)
abbrev pub log_list : ℕ
log_list = 0

-- the room's list of what it says of its disk (own)
abbrev pub faults_list : ℕ
faults_list = 1

-- the room's list of the file numbers that were found and drawn (own)
abbrev pub numbers_list : ℕ
numbers_list = 2

-- the list of a shard: its mutations, its purges and its changes (own)
abbrev pub front_list : ℕ → ℕ
front_list shard = 16 + shard

-- the list of what raised a shard's moment (own)
abbrev pub moments_list : ℕ → ℕ
moments_list shard = 32 + shard

-- the list of a shard's changes (own)
abbrev pub changes_list : ℕ → ℕ
changes_list shard = 48 + shard

-- the room's list of them (own)
abbrev pub room_changes : ℕ → ℕ
room_changes shard = 64 + shard

-- the book's list of them (own)
abbrev pub book_changes : ℕ → ℕ
book_changes shard = 80 + shard

-- from here on even lists are diaries, of sessions and workers; odd ones are works, of a table's flushes or of its compactions, and lists of the file
-- numbers that a session or worker draws (own)
abbrev pub first_diary : ℕ
first_diary = 96

-- each number stands once in the list (own)
abbrev pub Distinct : List ℕ → Type 0
Distinct [] = Unit {0}
Distinct (k ∷ ks) = (Has ks k → ⊥) × Distinct ks

module _ {E : Type 0} where
  abbrev pub lists_of : Item E → List ℕ
  lists_of (Found list _) = list ∷ []
  lists_of (Stood shard _ _ _ _) = numbers_list ∷ changes_list shard ∷ room_changes shard ∷ book_changes shard ∷ front_list shard ∷ []
  lists_of (Wrote shard session _ _ _) = log_list ∷ front_list shard ∷ session ∷ []
  lists_of (Purged shard works pass _) = front_list shard ∷ works ∷ pass ∷ []
  lists_of (Faulted _ _ _) = faults_list ∷ []
  lists_of (Read pass _) = pass ∷ []
  lists_of (Rose shard _ _) = moments_list shard ∷ []
  lists_of (Drew pass _) = numbers_list ∷ pass ∷ []
  lists_of (Began works pass _) = works ∷ pass ∷ []
  lists_of (Ended works pass) = works ∷ pass ∷ []
  lists_of (Changed shard pass _ _ _ _ _) = changes_list shard ∷ room_changes shard ∷ book_changes shard ∷ pass ∷ front_list shard ∷ []

  -- a word for each shard's mutations, from 2 on; one for each shard's changes, from 18 on; all else by the first (own)
  abbrev pub word_of : Item E → ℕ
  word_of (Wrote shard _ _ _ _) = 2 + shard
  word_of (Changed shard _ _ _ _ _ _) = 18 + shard
  word_of other = 0

  -- what may be the next of a list (own):
  -- what the opening found comes first; of its files none stood before, nor was drawn; a mutation has the next number of its shard, and is its
  -- session's next write; a purge is decided by whose turn it is; what the room tells of its disk doesn't fall, and the fault that stopped it
  -- stays; a moment rises; so do file numbers; works begin where none run, and are ended by who began them; a change adds other files, which
  -- its maker drew, and no change took, removes files that the shard has, and doesn't let the frontier fall, nor set it above the shard's last number
  abbrev pub MayCome : ℕ → List (Item E) → Item E → Type 0
  MayCome list before (Found there _) = (there < 48) × (before ≡ [])
  MayCome list before (Stood shard table frontier found _) =
      (shard < 16) × Distinct found × (list ≡ numbers_list → Each (λ k. (k ≤ last_file before) × (Has (used before) k → ⊥)) found)
      × (list ≡ changes_list shard → frontier_of table before ≤ frontier) × (list ≡ front_list shard → frontier ≤ last_number before)
  MayCome list before (Wrote shard session call number _) =
      (shard < 16) × (first_diary ≤ session) × (list ≡ front_list shard → number ≡ last_number before + 1) × (list ≡ session → call ≡ last_call before + 1)
  MayCome list before (Purged shard works pass _) = (shard < 16) × (first_diary ≤ works) × (first_diary ≤ pass) × (works ≢ pass)
      × (list ≡ works → runs works before ≡ Some pass)
  MayCome list before (Faulted number committed first) = (last_fault before ≤ number) × (last_committed before ≤ committed)
      × (last_first before ≢ 0 → first ≡ last_first before)
  MayCome list before (Read pass _) = first_diary ≤ pass
  MayCome list before (Rose shard pass micros) = (shard < 16) × (last_moment before < micros / 1000000)
  MayCome list before (Drew pass file) = (first_diary ≤ pass) × (list ≡ numbers_list → last_file before < file)
  MayCome list before (Began works pass _) = (first_diary ≤ works) × (first_diary ≤ pass) × (works ≢ pass) × (pass % 2 ≡ 0)
      × (list ≡ works → runs works before ≡ None)
  MayCome list before (Ended works pass) = (first_diary ≤ works) × (first_diary ≤ pass) × (works ≢ pass) × (list ≡ works → runs works before ≡ Some pass)
  MayCome list before (Changed shard pass table frontier removed added _) = (shard < 16) × (first_diary ≤ pass) × Distinct added
      × (list ≡ pass → Each (λ k. holds k before ≡ true) added)
      × (list ≡ changes_list shard → (frontier_of table before ≤ frontier) × Each (λ k. Has (files_of before) k) removed)
      × (list ≡ front_list shard → frontier ≤ last_number before)

  -- a moment rests on the reading that raised it (own)
  abbrev pub rests_on : Item E → List (Item E)
  rests_on (Rose _ pass micros) = Read pass micros ∷ []
  rests_on other = []

  abbrev pub items : Rules (Item E)
  items = record { lists = lists_of; word = word_of; may = MayCome; cites = rests_on }

  -- the list with this number (own)
  abbrev pub listed : ℕ → List (Item E) → List (Item E)
  listed list log = part items list log
