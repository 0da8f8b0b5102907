-- Segments that are dropped, in the words of what the room keeps.
use Rattle.std.proofs.Common.{◌≡◌, ◌⊎◌, ⊎_elim, inl, inr, ℕ, zero, suc, ◌+◌, ◌-◌, ◌*◌, ◌<◌, ◌≤◌, List, [], ◌∷◌, ◌++◌, length, map, take, drop, Some, Result, Ok, Err, refl, sym, ap, subst, ◌∙◌, arith, append_assoc, length-append}
use Rattle.std.specs.Prelude.{MatchResult, slice_get, unwrap_or}
use Rattle.std.specs.List.{AllByRecursion}
use Rattle.std.proofs.lemmas.List.{append-nil, length-drop, length-take-le, take-append-drop}
use Rattle.cas_disk.specs.Disk.{Image, Disk, During}
use Rattle.cas_disk.proofs.Moments.{reworded}
use Rattle.cas_atoms.specs.declared.atom.Mutation.{Mutation}
use Rattle.cas_changes.specs.Saying.{Saying, frontiers_in, no_part, part_of, place_in, said_by}
use Rattle.cas_changes.specs.declared.said.Part.{Part}
use Rattle.cas_changes.specs.declared.entry.Entry.{Entry}
use Rattle.cas_changes.specs.declared.entry.Entry.TheVariants.{DropSegment}
use Rattle.cas_history.specs.declared.item.Item.{Item}
use Rattle.cas_journal.specs.Ends.{LastsDropped}
use Rattle.cas_journal.specs.Journals.{Goes, Lasts}
use Rattle.cas_journal.specs.Stores.{Found, Told, Dropped, Holds, HoldsDropped, MayList, may_be_without, without}
use Rattle.cas_journal.specs.declared.fault.JournalFault.{JournalFault}
use Rattle.cas_journal.specs.declared.fault.JournalFault.TheVariants.{TooLarge, TooMany, Stopped, Failed, Mem}
use Rattle.cas_journal.specs.declared.journal.Journal.{Journal}
use Rattle.cas_journal.proofs.Holding.{committed_few}
use Rattle.cas_mutations.specs.Allowed.{FitsRecord}
use Rattle.cas_replay.specs.Reading.{frontier_of}
use Rattle.cas_room.specs.declared.event.Event.{Event}
use Rattle.cas_room.specs.Dropping.{Drops, FailedToDrop, StandsDropped}
use Rattle.cas_room.specs.Keeping.{AreFlushed, HasTaken, IsFlushed, Keeps, MayFail}
use Rattle.cas_room.specs.Rooms.{accepted_in}
use Rattle.cas_room.proofs.Flushed.{SaysAs, all_both, as_dropped, flushed_alike, may_fail_alike}
use Rattle.cas_room.proofs.Standing.{holds_front}

-- ---- frontiers

mapped_at : (parts : List Part) (i : ℕ) → unwrap_or (slice_get (map (λ (p : Part). p.frontier) parts) i) 0 ≡ (unwrap_or (slice_get parts i) no_part).frontier
mapped_at [] i = refl
mapped_at (p ∷ parts) zero = refl
mapped_at (p ∷ parts) (suc i) = mapped_at parts i

get_within : {A : Type 0} (xs : List A) (n : ℕ) (x : A) → slice_get xs n ≡ Some x → n < length xs
get_within [] n x there = absurd cc
get_within (y ∷ xs) zero x there = omega arith
get_within (y ∷ xs) (suc n) x there = let low = get_within xs n x there in omega (arith, low)

-- a mutation of one of the tables that is at or below these frontiers stands in table files
module _ (s : Saying) (shards : ℕ) (frontiers : List ℕ) (are : frontiers ≡ frontiers_in s) (many : shards ≡ s.shards) where
  pub frontier_is : (table shard : ℕ) → frontier_of shards frontiers table shard ≡ (part_of s table shard).frontier
  frontier_is table shard =
      (λ i. unwrap_or (slice_get (are i) (table * many i + shard)) 0) ∙ mapped_at s.parts (place_in s table shard)

  are_flushed : (ms : List Mutation) → AllByRecursion (FitsRecord s.tables s.shards) ms → AllByRecursion (λ m. m.number ≤ frontier_of shards frontiers m.table m.shard) ms
      → AllByRecursion (IsFlushed s) ms
  are_flushed [] fit below = tt
  are_flushed (m ∷ ms) fit below = (
    record { table = get_within s.tables m.table fit.0.table fit.0.there; shard = fit.0.fits.shard; below = omega (arith, below.0, frontier_is m.table m.shard) },
    are_flushed ms fit.1 below.1,
  )

-- the first ones of all
all_first : (P : Mutation → Type 0) (n : ℕ) (ms : List Mutation) → AllByRecursion P ms → AllByRecursion P (take n ms)
all_first P zero ms all = tt
all_first P (suc n) [] all = tt
all_first P (suc n) (m ∷ ms) all = (all.0, all_first P n ms all.1)

-- of the first ones so many are behind these
all_rest : (P : Mutation → Type 0) (a b n : ℕ) (ms : List Mutation) → n ≡ a + b → AllByRecursion P (take n ms) → AllByRecursion P (take b (drop a ms))
all_rest P zero b n ms is all = subst (λ (k : ℕ). AllByRecursion P (take k ms)) (let e : n ≡ b = omega (arith, is) in e) all
all_rest P (suc a) b zero ms is all = absurd (omega (arith, is))
all_rest P (suc a) zero (suc n) [] is all = tt
all_rest P (suc a) (suc b) (suc n) [] is all = tt
all_rest P (suc a) b (suc n) (m ∷ ms) is all = all_rest P a b n ms (omega (arith, is)) all.1

-- ---- what the room keeps

module _ (found accepted : List Mutation) (said : ℕ) (j : Journal) (disk : Disk) (t : Told) (has : HasTaken found accepted said t) (goes : Goes j disk t) (frontiers : List ℕ)
    (are : frontiers ≡ frontiers_in (said_by t.entries)) where
  abbrev shards : ℕ
  shards = j.notes.shards

  many_shards : shards ≡ (said_by t.entries).shards
  many_shards = goes.noted.0

  few_committed : t.committed ≤ length t.taken
  few_committed = committed_few j disk t goes

  module _ (u : Told) (dropped : Dropped shards frontiers t u) where
    few_gone : dropped.many ≤ length t.taken
    few_gone = omega (arith, few_committed, dropped.committed)

    few_left : u.committed ≤ length u.taken
    few_left = omega (arith, few_committed, dropped.committed, ap length dropped.taken, length-drop dropped.many t.taken)

    alike : SaysAs (said_by t.entries) (said_by u.entries)
    alike = subst (λ (es : List Entry). SaysAs (said_by t.entries) (said_by es)) (sym dropped.entries) (as_dropped t.entries dropped.numbers)

    gone_flushed : AllByRecursion (IsFlushed (said_by t.entries)) (take dropped.many t.taken)
    gone_flushed =
        are_flushed (said_by t.entries) shards frontiers are many_shards (take dropped.many t.taken)
        (all_first (FitsRecord (said_by t.entries).tables (said_by t.entries).shards) dropped.many t.taken goes.fit) dropped.covered

    pub drops : Drops t u
    drops = record {
      numbers = dropped.numbers;
      entries = dropped.entries;
      failed = inl dropped.failed;
      many = dropped.many;
      few = few_gone;
      taken = dropped.taken;
      committed = dropped.committed;
    }

    -- with an entry that failed
    has_less : (failed : List Entry) (leaving : ℕ) → MayFail (said_by u.entries) failed → leaving ≤ length u.taken → AreFlushed u.entries (take leaving u.taken)
        → HasTaken found accepted said (record u { failed = failed; leaving = leaving })
    has_less failed leaving may few flushed = record {
      origin = ap (λ (f : Found). f.mutations) dropped.found ∙ has.origin;
      dropped = has.dropped ++ take dropped.many t.taken;
      all = append_assoc has.dropped (take dropped.many t.taken) u.taken
          ∙ ap (λ (ms : List Mutation). has.dropped ++ (take dropped.many t.taken ++ ms)) dropped.taken
          ∙ ap (λ (ms : List Mutation). has.dropped ++ ms) (take-append-drop dropped.many t.taken) ∙ has.all;
      committed = omega (arith, has.committed, dropped.committed, length-append has.dropped (take dropped.many t.taken), length-take-le dropped.many t.taken few_gone);
      flushed = flushed_alike (said_by t.entries) (said_by u.entries) alike (has.dropped ++ take dropped.many t.taken)
          (all_both (IsFlushed (said_by t.entries)) has.dropped (take dropped.many t.taken) has.flushed gone_flushed);
      few = few;
      leaving = flushed;
      failing = may;
    }

    none_leaving : u.leaving ≡ 0
    none_leaving = dropped.leaving ∙ goes.none_leaving

    pub has_dropped : HasTaken found accepted said u
    has_dropped =
        has_less u.failed u.leaving (subst (MayFail (said_by u.entries)) (sym (dropped.failed ∙ goes.none_failed)) tt) (omega (arith, none_leaving))
        (subst (λ (n : ℕ). AreFlushed u.entries (take n u.taken)) (sym none_leaving) tt)

    -- and one more may be
    module _ (number many : ℕ) (few : many ≤ u.committed) (more : Dropped shards frontiers t (without number many u)) where
      sum : more.many ≡ dropped.many + many
      sum = omega (arith, more.committed, dropped.committed, few)

      pub may_drop : Drops t (may_be_without number many u)
      may_drop = record {
        numbers = dropped.numbers;
        entries = dropped.entries;
        failed = inr (number, refl);
        many = dropped.many;
        few = few_gone;
        taken = dropped.taken;
        committed = dropped.committed;
      }

      next_flushed : AreFlushed u.entries (take many u.taken)
      next_flushed =
          flushed_alike (said_by t.entries) (said_by u.entries) alike (take many u.taken)
          (subst (λ (ms : List Mutation). AllByRecursion (IsFlushed (said_by t.entries)) (take many ms)) (sym dropped.taken)
          (all_rest (IsFlushed (said_by t.entries)) dropped.many many more.many t.taken sum
          (are_flushed (said_by t.entries) shards frontiers are many_shards (take more.many t.taken)
          (all_first (FitsRecord (said_by t.entries).tables (said_by t.entries).shards) more.many t.taken goes.fit) more.covered)))

      pub has_maybe : HasTaken found accepted said (may_be_without number many u)
      has_maybe = has_less (DropSegment number ∷ []) many tt (omega (arith, few, few_left)) next_flushed

  -- an image meanwhile
  pub holds_dropped : (c : Image) → HoldsDropped shards frontiers t c → StandsDropped t found accepted said c
  holds_dropped c (u, dropped, inl holds) = (u, drops u dropped, holds_front u found accepted said c (has_dropped u dropped) holds)
  holds_dropped c (u, dropped, inr (number, many, few, more, holds)) = (
    may_be_without number many u,
    may_drop u dropped number many few more,
    holds_front (may_be_without number many u) found accepted said c (has_maybe u dropped number many few more) holds,
  )

-- what it keeps, once some are dropped
pub drops_keep : (j k : Journal) (before disk : Disk) (list : List (Item Event)) (said : ℕ) (found : List Mutation) (t : Told) → HasTaken found (accepted_in list) said t → Goes j before t
    → (frontiers : List ℕ) → frontiers ≡ frontiers_in (said_by t.entries) → (r : Result ℕ JournalFault)
    → MatchResult r (λ count. (u : Told) × (d : Dropped j.notes.shards frontiers t u) × (length d.numbers ≡ count) × Lasts k disk u)
    (λ f. LastsDropped f k disk j.notes.shards frontiers t)
    → (u : Told) × Drops t u × Keeps k disk list said found u
drops_keep j k before disk list said found t has goes frontiers are r lasts = by r lasts
  where
    some : (u : Told) → Dropped j.notes.shards frontiers t u → Lasts k disk u → (u : Told) × Drops t u × Keeps k disk list said found u
    some u dropped lasts =
        (u, drops found (accepted_in list) said j before t has goes frontiers are u dropped, record { lasts = lasts; has = has_dropped found (accepted_in list) said j before t has goes frontiers are u dropped })

    by : (r : Result ℕ JournalFault) → MatchResult r (λ count. (u : Told) × (d : Dropped j.notes.shards frontiers t u) × (length d.numbers ≡ count) × Lasts k disk u)
        (λ f. LastsDropped f k disk j.notes.shards frontiers t) → (u : Told) × Drops t u × Keeps k disk list said found u
    by (Ok count) (u, dropped, is, lasts) = some u dropped lasts
    by (Err Failed) (u, dropped, number, many, few, more, lasts) = (
      may_be_without number many u,
      may_drop found (accepted_in list) said j before t has goes frontiers are u dropped number many few more,
      record { lasts = lasts; has = has_maybe found (accepted_in list) said j before t has goes frontiers are u dropped number many few more },
    )
    by (Err Mem) (u, dropped, lasts) = some u dropped lasts
    by (Err (TooMany what most)) (u, dropped, lasts) = some u dropped lasts
    by (Err (TooLarge long most)) (u, dropped, lasts) = some u dropped lasts
    by (Err (Stopped first)) (u, dropped, lasts) = some u dropped lasts

pub leaves_dropped : (j : Journal) (before disk : Disk) (list : List (Item Event)) (said : ℕ) (found : List Mutation) (t : Told) → HasTaken found (accepted_in list) said t → Goes j before t
    → (frontiers : List ℕ) → frontiers ≡ frontiers_in (said_by t.entries) → During (λ _ c. HoldsDropped j.notes.shards frontiers t c) before disk
    → During (λ _ c. StandsDropped t found (accepted_in list) said c) before disk
leaves_dropped j before disk list said found t has goes frontiers are call =
    reworded (λ _ c. HoldsDropped j.notes.shards frontiers t c) (λ _ c. StandsDropped t found (accepted_in list) said c) before disk call
    (λ d c was holds. holds_dropped found (accepted_in list) said j before t has goes frontiers are c holds)

-- where nothing was dropped
pub none_dropped : (t : Told) → Drops t t
none_dropped t = record {
  numbers = [];
  entries = sym (append-nil t.entries);
  failed = inl refl;
  many = 0;
  few = omega arith;
  taken = refl;
  committed = omega arith;
}
