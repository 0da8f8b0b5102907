-- What entries that may follow one another say together: the store is made, and the segments that are listed ascend.
use Rattle.std.proofs.Common.{◌≢◌, ℕ, ◌+◌, ◌<◌, ◌≤◌, Bool, true, false, cond, List, [], ◌∷◌, ◌++◌, refl, arith}
use Rattle.std.specs.Prelude.{filter}
use Rattle.std.specs.List.{AllByRecursion, fold}
use Rattle.cas_changes.specs.declared.entry.Entry.{Entry}
use Rattle.cas_changes.specs.declared.entry.Entry.TheVariants as entry
use Rattle.cas_changes.specs.Saying.{Saying, nothing, after, said_by}
use Rattle.cas_changes.specs.Allowed.{FitsEntry, IsMade}
use Rattle.cas_manifest.specs.File.{MayFollow}

-- ---- the store is made

still_made : (s : Saying) (e : Entry) → IsMade s → FitsEntry s e → IsMade (after s e)
still_made s (entry.Store shards) made fits = absurd (omega (arith, made, fits.0))
still_made s (entry.Schema t) made fits = made
still_made s (entry.NewSegment n) made fits = made
still_made s (entry.DropSegment n) made fits = made
still_made s (entry.Change c) made fits = made
still_made s (entry.AddColumns table columns) made fits = made

made_by_all : (s : Saying) (entries : List Entry) → IsMade s → MayFollow s entries → IsMade (fold after s entries)
made_by_all s [] made follow = made
made_by_all s (e ∷ entries) made follow = made_by_all (after s e) entries (still_made s e made follow.0.0) follow.1

first_makes : (e : Entry) → FitsEntry nothing e → IsMade (after nothing e)
first_makes (entry.Store shards) fits = fits.1.0
first_makes (entry.Schema t) fits = absurd (omega (arith, fits.0))
first_makes (entry.NewSegment n) fits = absurd (omega (arith, fits.0))
first_makes (entry.DropSegment n) fits = absurd (omega (arith, fits.0))
first_makes (entry.Change c) fits = absurd (omega (arith, fits.0))
first_makes (entry.AddColumns table columns) fits = absurd (omega (arith, fits.0))

-- the first entry makes the store
pub is_made : (entries : List Entry) → entries ≢ [] → MayFollow nothing entries → IsMade (said_by entries)
unfolding said_by
is_made [] some follow = absurd (some refl)
is_made (e ∷ entries) some follow = made_by_all (after nothing e) entries (first_makes e follow.0.0) follow.1

-- ---- the segments that are listed ascend

-- from the first number to below the second
abbrev pub Ascends : ℕ → List ℕ → ℕ → Type 0
Ascends low [] high = low ≤ high
Ascends low (n ∷ ns) high = (low ≤ n) × Ascends (n + 1) ns high

pub low_below : (low : ℕ) (ns : List ℕ) (high : ℕ) → Ascends low ns high → low ≤ high
low_below low [] high ascends = ascends
low_below low (n ∷ ns) high ascends = omega (arith, ascends.0, low_below (n + 1) ns high ascends.1)

from_lower : (lower low : ℕ) (ns : List ℕ) (high : ℕ) → lower ≤ low → Ascends low ns high → Ascends lower ns high
from_lower lower low [] high le ascends = omega (arith, le, ascends)
from_lower lower low (n ∷ ns) high le ascends = (omega (arith, le, ascends.0), ascends.1)

one_more : (low : ℕ) (ns : List ℕ) (high n : ℕ) → Ascends low ns high → high ≤ n → Ascends low (ns ++ n ∷ []) (n + 1)
one_more low [] high n ascends above = (omega (arith, ascends, above), omega arith)
one_more low (k ∷ ns) high n ascends above = (ascends.0, one_more (k + 1) ns high n ascends.1 above)

some_gone : (p : ℕ → Bool) (low : ℕ) (ns : List ℕ) (high : ℕ) → Ascends low ns high → Ascends low (filter p ns) high
some_gone p low [] high ascends = ascends
some_gone p low (n ∷ ns) high ascends =
    elim (p n) as (λ b. Ascends low (cond b (n ∷ filter p ns) (filter p ns)) high) [
      | true ↦ (ascends.0, some_gone p (n + 1) ns high ascends.1)
      | false ↦ from_lower low (n + 1) (filter p ns) high (omega (arith, ascends.0)) (some_gone p (n + 1) ns high ascends.1)
    ]

-- those before the last one are below it
pub before_last : (low : ℕ) (ns : List ℕ) (n high : ℕ) → Ascends low (ns ++ n ∷ []) high → Ascends low ns n
before_last low [] n high ascends = ascends.0
before_last low (k ∷ ns) n high ascends = (ascends.0, before_last (k + 1) ns n high ascends.1)

pub all_below : (low : ℕ) (ns : List ℕ) (high : ℕ) → Ascends low ns high → AllByRecursion (λ n. n < high) ns
all_below low [] high ascends = tt
all_below low (n ∷ ns) high ascends = (omega (arith, low_below (n + 1) ns high ascends.1), all_below (n + 1) ns high ascends.1)

-- the segments that are listed
abbrev pub InOrder : Saying → Type 0
InOrder s = Ascends 0 s.segments (s.last_segment + 1)

still_in_order : (s : Saying) (e : Entry) → InOrder s → FitsEntry s e → InOrder (after s e)
still_in_order s (entry.Store shards) ordered fits = ordered
still_in_order s (entry.Schema t) ordered fits = ordered
still_in_order s (entry.NewSegment n) ordered fits = one_more 0 s.segments (s.last_segment + 1) n ordered (omega (arith, fits.1))
still_in_order s (entry.DropSegment n) ordered fits = some_gone _ 0 s.segments (s.last_segment + 1) ordered
still_in_order s (entry.Change c) ordered fits = ordered
still_in_order s (entry.AddColumns table columns) ordered fits = ordered

all_in_order : (s : Saying) (entries : List Entry) → InOrder s → MayFollow s entries → InOrder (fold after s entries)
all_in_order s [] ordered follow = ordered
all_in_order s (e ∷ entries) ordered follow = all_in_order (after s e) entries (still_in_order s e ordered follow.0.0) follow.1

pub in_order : (entries : List Entry) → MayFollow nothing entries → InOrder (said_by entries)
unfolding said_by
in_order entries follow = all_in_order nothing entries (omega arith) follow
