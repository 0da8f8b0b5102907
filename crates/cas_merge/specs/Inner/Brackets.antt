-- What is still to come of sources that are joined in pairs, and pairs in pairs (own).
use Rattle.std.specs.Prelude.{◌≡◌, ℕ, ◌+◌, Option, None, Some, List, [], ◌∷◌, Result}
use Rattle.cas_cell.specs.declared.deletion.Deletion.{Deletion}
use Rattle.cas_streams.specs.Weaving.{woven}
use Rattle.cas_streams.specs.Joined.{by_place}
use Rattle.cas_streams.specs.Sources.{TakesFirst, Shrinks}
use Rattle.cas_streams.specs.Settled.{settled_from}
use Rattle.cas_streams.specs.Merged.{Draw, nobody, one, pair}
use Rattle.cas_streams.specs.declared.fragment.Fragment.{Fragment}
use Rattle.cas_merge.specs.declared.bracket.Ahead.{Ahead}
use Rattle.cas_merge.specs.declared.bracket.Ahead.TheVariants.{Unasked, Next, Ended}
use Rattle.cas_merge.specs.declared.bracket.Side.{Side}
use Rattle.cas_merge.specs.declared.bracket.Bracket.{Bracket}
use Rattle.cas_merge.specs.declared.bracket.Bracket.TheVariants.{Nobody, Source, Pair'}

-- what comes of a side: the fragment that was asked for, then the others
abbrev pub with_next : Ahead → Option (List Fragment) → Option (List Fragment)
with_next Unasked others = others
with_next (Next f) None = None
with_next (Next f) (Some fs) = Some (f ∷ fs)
with_next Ended others = Some []

-- what comes of two sides
abbrev pub of_both : Side → Option (List Fragment) → Side → Option (List Fragment) → Option (List Fragment)
of_both s None t ys = None
of_both s (Some xs) t None = None
of_both s (Some xs) t (Some ys) = Some (woven by_place (record { left = s.in_force; right = t.in_force }) xs ys)

-- what comes of a bracket, of sources that tell
abbrev pub coming : {I : Type 0} → (I → Option (List Fragment)) → Bracket I → Option (List Fragment)
coming tells Nobody = Some []
coming tells (Source s) = tells s
coming tells (Pair' p l s q r t) = of_both s (with_next s.ahead (coming tells l)) t (with_next t.ahead (coming tells r))

-- how many fragments come at most of a side
abbrev pub side_room : Ahead → ℕ → ℕ
side_room Unasked n = n
side_room (Next f) n = n + 1
side_room Ended n = n

-- and of a bracket
abbrev pub room : {I : Type 0} → (I → ℕ) → Bracket I → ℕ
room holds Nobody = 0
room holds (Source s) = holds s
room holds (Pair' p l s q r t) = side_room s.ahead (room holds l) + side_room t.ahead (room holds r)

-- it was asked for what comes next
abbrev pub IsAsked : Ahead → Type 0
IsAsked Unasked = ⊥
IsAsked (Next f) = Unit {0}
IsAsked Ended = Unit {0}

-- a call of two sides that gives what comes first of them, whatever comes of them later
abbrev pub Steps : {E : Type 0} → Side → Side → Side → Side → Result (Option Fragment) E → Type 0
Steps s t u v result = (xs ys : Option (List Fragment)) (fs : List Fragment) → of_both s (with_next s.ahead xs) t (with_next t.ahead ys) ≡ Some fs →
    TakesFirst fs (of_both u (with_next u.ahead xs) v (with_next v.ahead ys)) result

-- and then fewer are to come
abbrev pub Lessens : {E : Type 0} → Side → Side → Side → Side → Result (Option Fragment) E → Type 0
Lessens s t u v result = (m n : ℕ) → Shrinks (side_room s.ahead m + side_room t.ahead n) (side_room u.ahead m + side_room v.ahead n) result

-- what was asked for, by the answer
abbrev pub ahead_of : Option Fragment → Ahead
ahead_of None = Ended
ahead_of (Some f) = Next f

-- a side that was asked for nothing yet
abbrev pub fresh : Side
fresh = record { ahead = Unasked; in_force = None }

-- sources that weren't asked yet tell the streams of a draw, joined in these pairs
abbrev pub Tells : {I : Type 0} → (I → Option (List Fragment)) → (I → Option Deletion) → Bracket I → Draw → Type 0
Tells tells tops Nobody nobody = Unit {0}
Tells tells tops (Source s) (one t) = (tells s ≡ Some t.fragments) × (tops s ≡ t.top)
Tells tells tops (Pair' p l s q r t) (pair a b) = Tells tells tops l a × Tells tells tops r b × (s ≡ fresh) × (t ≡ fresh)
Tells tells tops b d = ⊥

-- no side was asked yet
abbrev pub IsFresh : {I : Type 0} → Bracket I → Type 0
IsFresh Nobody = Unit {0}
IsFresh (Source s) = Unit {0}
IsFresh (Pair' p l s q r t) = IsFresh l × IsFresh r × (s ≡ fresh) × (t ≡ fresh)

-- what is left of what comes, if before it `now` is in force
abbrev pub left_to_come : Option Deletion → Option Deletion → Option (List Fragment) → Option (List Fragment)
left_to_come top now None = None
left_to_come top now (Some fs) = Some (settled_from top now fs)
