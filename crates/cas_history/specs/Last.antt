-- What the entries of a list come to.
use Rattle.std.specs.Prelude.{◌≡◌, ℕ, ◌/◌, List, [], ◌∷◌, ◌++◌, Bool, true, false, not, cond, ◌==◌, Option, None, Some}
use Rattle.std.specs.List.{fold, filter, flat_map, list_any}
use Rattle.cas_history.specs.declared.item.Item.{Item}
use Rattle.cas_history.specs.declared.item.Item.TheVariants.{Found, Stood, Wrote, Purged, Faulted, Rose, Drew, Began, Ended, Changed}

-- numbers without those of another list (own)
abbrev pub without : List ℕ → List ℕ → List ℕ
without gone list = filter (λ k. not (list_any (λ j. j == k) gone)) list

module _ {E : Type 0} where
  abbrev pub number_after : ℕ → Item E → ℕ
  number_after n (Found _ number) = number
  number_after n (Wrote _ _ _ number _) = number
  number_after n other = n

  -- the number of a shard's last mutation, or what the opening found (own)
  abbrev pub last_number : List (Item E) → ℕ
  last_number list = fold number_after 0 list

  abbrev pub call_after : ℕ → Item E → ℕ
  call_after n (Wrote _ _ call _ _) = call
  call_after n other = n

  -- the number of a session's last write (own)
  abbrev pub last_call : List (Item E) → ℕ
  last_call list = fold call_after 0 list

  abbrev pub fault_after : ℕ → Item E → ℕ
  fault_after n (Faulted number _ _) = number
  fault_after n other = n

  -- how many faults the room told of (own)
  abbrev pub last_fault : List (Item E) → ℕ
  last_fault list = fold fault_after 0 list

  abbrev pub committed_after : ℕ → Item E → ℕ
  committed_after n (Faulted _ committed _) = committed
  committed_after n other = n

  -- how many mutations the room told are committed (own)
  abbrev pub last_committed : List (Item E) → ℕ
  last_committed list = fold committed_after 0 list

  abbrev pub first_after : ℕ → Item E → ℕ
  first_after n (Faulted _ _ first) = first
  first_after n other = n

  -- the fault that stopped the room, 0 where none did (own)
  abbrev pub last_first : List (Item E) → ℕ
  last_first list = fold first_after 0 list

  abbrev pub moment_after : ℕ → Item E → ℕ
  moment_after n (Found _ number) = number
  moment_after n (Rose _ _ micros) = micros / 1000000
  moment_after n other = n

  -- a shard's moment: of the reading that raised it last, or what the opening found (own)
  abbrev pub last_moment : List (Item E) → ℕ
  last_moment list = fold moment_after 0 list

  abbrev pub file_after : ℕ → Item E → ℕ
  file_after n (Found _ number) = number
  file_after n (Drew _ file) = file
  file_after n other = n

  -- the last number that was drawn for a table file, or the greatest that the opening found (own)
  abbrev pub last_file : List (Item E) → ℕ
  last_file list = fold file_after 0 list

  abbrev pub runs_after : ℕ → Option ℕ → Item E → Option ℕ
  runs_after works p (Began there pass _) = cond (there == works) (Some pass) p
  runs_after works p (Ended there _) = cond (there == works) None p
  runs_after works p other = p

  -- the diary of who flushes or compacts, where that runs (own)
  abbrev pub runs : ℕ → List (Item E) → Option ℕ
  runs works list = fold (runs_after works) None list

  abbrev pub turn_after : ℕ → Bool → Item E → Bool
  turn_after works b (Began there _ _) = cond (there == works) true b
  turn_after works b (Ended there _) = cond (there == works) false b
  turn_after works b other = b

  -- whether a diary has begun these works and not ended them (own)
  abbrev pub turn : ℕ → List (Item E) → Bool
  turn works diary = fold (turn_after works) false diary

  -- the diary has no turn of any works (own)
  abbrev pub Idle : List (Item E) → Type 0
  Idle diary = (works : ℕ) → turn works diary ≡ false

  abbrev pub decided_after : ℕ → List E → Item E → List E
  decided_after works ds (Began there _ _) = cond (there == works) [] ds
  decided_after works ds (Purged _ there _ what) = cond (there == works) (ds ++ what ∷ []) ds
  decided_after works ds (Ended there _) = cond (there == works) [] ds
  decided_after works ds other = ds

  -- what was decided since these works began, where they run (own)
  abbrev pub decided : ℕ → List (Item E) → List E
  decided works list = fold (decided_after works) [] list

  abbrev pub holds_after : ℕ → Bool → Item E → Bool
  holds_after file b (Drew _ drawn) = cond (drawn == file) true b
  holds_after file b (Changed _ _ _ _ _ added _) = cond (list_any (λ k. k == file) added) false b
  holds_after file b other = b

  -- whether a number for a table file was drawn into this list, and no change took it (own)
  abbrev pub holds : ℕ → List (Item E) → Bool
  holds file list = fold (holds_after file) false list

  -- the file numbers that an entry uses up: those that the opening found, or the one that is drawn
  abbrev pub uses : Item E → List ℕ
  uses (Stood _ _ _ files _) = files
  uses (Drew _ file) = file ∷ []
  uses other = []

  -- all file numbers that were found or drawn (own)
  abbrev pub used : List (Item E) → List ℕ
  used list = flat_map uses list

  -- the files that an entry lists: those that the opening found, or those that a change adds
  abbrev pub adds : Item E → List ℕ
  adds (Stood _ _ _ files _) = files
  adds (Changed _ _ _ _ _ added _) = added
  adds other = []

  -- all files that were ever listed (own)
  abbrev pub all_added : List (Item E) → List ℕ
  all_added list = flat_map adds list

  abbrev pub files_after : List ℕ → Item E → List ℕ
  files_after files (Stood _ _ _ found _) = files ++ found
  files_after files (Changed _ _ _ _ removed added _) = without removed files ++ added
  files_after files other = files

  -- a shard's table files, from its list of changes (own)
  abbrev pub files_of : List (Item E) → List ℕ
  files_of list = fold files_after [] list

  abbrev pub frontier_after : ℕ → ℕ → Item E → ℕ
  frontier_after table n (Stood _ there frontier _ _) = cond (there == table) frontier n
  frontier_after table n (Changed _ _ there frontier _ _ _) = cond (there == table) frontier n
  frontier_after table n other = n

  -- the number of the shard's last mutation that a table's files hold, from the shard's list of changes (own)
  abbrev pub frontier_of : ℕ → List (Item E) → ℕ
  frontier_of table list = fold (frontier_after table) 0 list
