-- Why a log of which the lowest segment is needed still is trimmed.
use Rattle.std.proofs.Common.{◌≡◌, ◌⊎◌, ⊎_elim, inl, inr, Bool, true, false, ℕ, zero, suc, ◌+◌, ◌<◌, ◌≤◌, List, [], ◌∷◌, ◌++◌, length, take, drop, Option, None, Some, Result, Ok, Err, refl, sym, ap, subst, ◌∙◌, arith, length-append, if◌then◌else◌}
use Rattle.std.specs.Prelude.{OnOk}
use Rattle.std.specs.List.{Any}
use Rattle.std.proofs.lemmas.Bool.{ltb-true}
use Rattle.std.proofs.lemmas.List.{get_or_append_left, get_or-append-add, take-append-drop}
use Rattle.cas_disk.specs.Disk.{Disk}
use Rattle.cas_atoms.specs.declared.atom.Mutation.{Mutation}
use Rattle.cas_changes.specs.Saying.{Saying, frontiers_in, is_listed, said_by}
use Rattle.cas_history.specs.declared.item.Item.{Item}
use Rattle.cas_gates.specs.declared.first.First.{First}
use Rattle.cas_journal.specs.Ends.{Ends, IsLowestNeeded, IsNeeded}
use Rattle.cas_journal.specs.Journals.{Lasts}
use Rattle.cas_journal.specs.Notes.{noted_with}
use Rattle.cas_journal.specs.Stores.{Found, Told}
use Rattle.cas_journal.specs.declared.fault.JournalFault.{JournalFault}
use Rattle.cas_journal.specs.declared.journal.Journal.{Journal}
use Rattle.cas_replay.specs.Reading.{frontier_of, is_above}
use Rattle.cas_room.specs.declared.event.Event.{Event}
use Rattle.cas_room.specs.Dropping.{IsAbove, IsTrimmed}
use Rattle.cas_room.specs.Keeping.{HasTaken, Keeps}
use Rattle.cas_room.specs.Rooms.{accepted_in}
use Rattle.cas_room.proofs.Shrinking.{frontier_is}

-- ---- one of several

any_left : (P : Mutation → Type 0) (xs ys : List Mutation) → Any P xs → Any P (xs ++ ys)
any_left P xs ys (k, x, low, is, so) = (k, x, omega (arith, low, length-append xs ys), get_or_append_left xs ys x k low ∙ is, so)

any_right : (P : Mutation → Type 0) (xs ys : List Mutation) → Any P ys → Any P (xs ++ ys)
any_right P xs ys (k, x, low, is, so) = (length xs + k, x, omega (arith, low, length-append xs ys), get_or-append-add xs ys k x ∙ is, so)

any_taken : (P : Mutation → Type 0) (n : ℕ) (xs : List Mutation) → Any P (take n xs) → Any P xs
any_taken P n xs one = subst (Any P) (take-append-drop n xs) (any_left P (take n xs) (drop n xs) one)

either_way : (P : Mutation → Type 0) (xs ys : List Mutation) → Any P (xs ++ ys) → Any P xs ⊎ Any P ys
either_way P [] ys one = inr one
either_way P (x ∷ xs) ys (zero, y, low, is, so) = inl (zero, y, omega arith, is, so)
either_way P (x ∷ xs) ys (suc k, y, low, is, so) =
    ⊎_elim (λ one. inl (next_of xs one)) inr (either_way P xs ys (k, y, omega (arith, low), is, so))
  where
    next_of : (zs : List Mutation) → Any P zs → Any P (x ∷ zs)
    next_of zs (j, z, near, here, good) = (suc j, z, omega (arith, near), here, good)

-- ---- what stands in no table file

-- a mutation above its frontier
above_frontier : (s : Saying) (shards : ℕ) (frontiers : List ℕ) → frontiers ≡ frontiers_in s → shards ≡ s.shards → (m : Mutation) → is_above shards frontiers m ≡ true
    → IsAbove s m
above_frontier s shards frontiers are many m above =
    let low = ltb-true (frontier_of shards frontiers m.table m.shard) m.number above in
    omega (arith, low, frontier_is s shards frontiers are many m.table m.shard)

-- those that are noted with a segment were found or are its own
noted_apart : (P : Mutation → Type 0) (found : Found) (segment : ℕ) (ms : List Mutation) → Any P (noted_with found segment ms) → Any P found.mutations ⊎ Any P ms
noted_apart P found segment ms one = by (is_listed found.segments segment) (either_way P (if is_listed found.segments segment then found.mutations else []) ms one)
  where
    by : (b : Bool) → Any P (if b then found.mutations else []) ⊎ Any P ms → Any P found.mutations ⊎ Any P ms
    by true parts = parts
    by false (inl (k, x, low, is, so)) = absurd (omega (arith, low))
    by false (inr own) = inr own

-- one of those that were found or accepted is above its frontier
any_above : (found accepted : List Mutation) (said : ℕ) (t : Told) → HasTaken found accepted said t → (shards : ℕ) (frontiers : List ℕ) → frontiers ≡ frontiers_in (said_by t.entries)
    → shards ≡ (said_by t.entries).shards → (disk : Disk) (segment : ℕ) → IsNeeded shards frontiers t disk segment → Any (IsAbove (said_by t.entries)) (found ++ accepted)
any_above found accepted said t has shards frontiers are many disk segment needed =
    let Above = IsAbove (said_by t.entries) in
    let (k, m, low, is, above) = needed.one in
    let one : Any Above (noted_with t.found segment (take needed.many t.taken)) =
    (k, m, low, is, above_frontier (said_by t.entries) shards frontiers are many m above) in
    ⊎_elim
    (λ first. any_left Above found accepted (subst (Any Above) has.origin first))
    (λ own. subst (Any Above) has.all (any_right Above has.dropped t.taken (any_taken Above needed.many t.taken own)))
    (noted_apart Above t.found segment (take needed.many t.taken) one)

-- where the lowest segment, unless it is the last, is needed still, the log is trimmed
is_trimmed : (found accepted : List Mutation) (said : ℕ) (t : Told) → HasTaken found accepted said t → (shards : ℕ) (frontiers : List ℕ) → frontiers ≡ frontiers_in (said_by t.entries)
    → shards ≡ (said_by t.entries).shards → (disk : Disk) (segments : List ℕ) → (said_by t.entries).segments ≡ segments → IsLowestNeeded shards frontiers t disk segments
    → IsTrimmed (said_by t.entries) (found ++ accepted)
is_trimmed found accepted said t has shards frontiers are many disk [] is needed = inl (omega (arith, ap length is))
is_trimmed found accepted said t has shards frontiers are many disk (n ∷ []) is needed = inl (omega (arith, ap length is))
is_trimmed found accepted said t has shards frontiers are many disk (n ∷ next ∷ others) is needed =
    inr (any_above found accepted said t has shards frontiers are many disk n needed)

-- after segments were dropped without a fault
pub trimmed_on : (j k : Journal) (disk : Disk) (list : List (Item Event)) (said shards : ℕ) (frontiers : List ℕ) (before now : ℕ) (r : Result ℕ JournalFault) → k.notes.shards ≡ shards
    → Ends j.first k.first before now r
    → OnOk r ((t : Told) → Lasts k disk t → IsLowestNeeded shards frontiers t disk (said_by t.entries).segments)
    → OnOk r ((found : List Mutation) (t : Told) → Keeps k disk list said found t → frontiers ≡ frontiers_in (said_by t.entries)
    → IsTrimmed (said_by t.entries) (found ++ accepted_in list))
trimmed_on j k disk list said shards frontiers before now (Err f) same ends stays = tt
trimmed_on j k disk list said shards frontiers before now (Ok count) same ends stays = λ found t keeps are.
    let goes = keeps.lasts.goes (kept_none j.first k.first before now count ends) in
    is_trimmed found (accepted_in list) said t keeps.has shards frontiers are (sym same ∙ goes.noted.0) disk (said_by t.entries).segments refl (stays t keeps.lasts)
  where
    kept_none : (first kept : Option First) (before now count : ℕ) → Ends first kept before now (Ok count) → kept ≡ None
    kept_none None kept before now count ends = ends
    kept_none (Some first) kept before now count ends = cc
