-- Why the lowest segment stays.
use Rattle.std.proofs.Common.{◌≡◌, ⊎_elim, ℕ, ◌<◌, true, List, [], ◌∷◌, map, take, ap, subst, ◌∙◌, arith}
use Rattle.std.specs.List.{Any}
use Rattle.std.proofs.lemmas.Bool.{lt-ltb}
use Rattle.std.proofs.lemmas.Option.{unwrap_or-slice_get}
use Rattle.cas_disk.specs.Disk.{Disk}
use Rattle.cas_atoms.specs.declared.atom.Mutation.{Mutation}
use Rattle.cas_changes.specs.Saying.{said_by}
use Rattle.cas_replay.specs.Tops.{place_in, number_at, top_at, AreTopsOf}
use Rattle.cas_replay.specs.Reading.{frontier_of, is_above}
use Rattle.cas_replay.specs.declared.tops.Tops.{Tops}
use Rattle.cas_journal.specs.Stores.{Found, Told}
use Rattle.cas_journal.specs.Notes.{noted_with}
use Rattle.cas_journal.specs.Journals.{Goes}
use Rattle.cas_journal.specs.Ends.{IsLowestNeeded}
use Rattle.cas_journal.specs.Inner.Noting.{IsFirstAbove, IsFirstNoted}
use Rattle.cas_journal.specs.declared.journal.Journal.{Journal}
use Rattle.cas_journal.specs.declared.notes.Note.{Note}
use Rattle.cas_journal.proofs.Lowest.{many, has_first}

module _ (shards : ℕ) (frontiers : List ℕ) where
  -- a number that is noted above its frontier is that of a mutation
  one_above : (tops : Tops) (ms : List Mutation) → AreTopsOf shards tops ms → (place : ℕ) → number_at frontiers place < top_at tops place
      → Any (λ m. is_above shards frontiers m ≡ true) ms
  one_above tops ms exact place above =
      ⊎_elim (λ none. absurd (omega (arith, above, none)))
      (λ (k, m, within, here, so).
      let number : m.number ≡ top_at tops place = so.1 in
      let is : frontier_of shards frontiers m.table m.shard ≡ number_at frontiers place =
      unwrap_or-slice_get frontiers (place_in shards m) 0 ∙ ap (number_at frontiers) so.0 in
      let higher : frontier_of shards frontiers m.table m.shard < m.number = omega (arith, above, is, number) in
      (k, m, within, here, lt-ltb (frontier_of shards frontiers m.table m.shard) m.number higher)) (exact place)

  -- of those that are noted with the first segment, one is above
  first_above : (found : Found) (notes : List Note) (segment next : ℕ) (others : List ℕ) (ms : List Mutation) → map (λ (n : Note). n.segment) notes ≡ segment ∷ next ∷ others
      → IsFirstAbove notes frontiers → IsFirstNoted shards found notes ms → Any (λ m. is_above shards frontiers m ≡ true) (noted_with found segment ms)
  first_above found [] segment next others ms is above noted = absurd noted
  first_above found (n ∷ []) segment next others ms is above noted = absurd (one_is_not_two is)
    where
      tail_of : List ℕ → List ℕ
      tail_of [] = []
      tail_of (x ∷ xs) = xs

      one_is_not_two : n.segment ∷ [] ≡ segment ∷ next ∷ others → ⊥
      one_is_not_two e = cc
  first_above found (n ∷ y ∷ notes) segment next others ms is above noted =
      let same : n.segment ≡ segment = ap (head_or 0) is in
      subst (λ (k : ℕ). Any (λ m. is_above shards frontiers m ≡ true) (noted_with found k ms)) same
      (one_above n.tops (noted_with found n.segment ms) noted.exact above.0 above.1)
    where
      head_or : ℕ → List ℕ → ℕ
      head_or d [] = d
      head_or d (x ∷ xs) = x

-- the lowest segment is needed still
pub lowest_needed : (shards : ℕ) (frontiers : List ℕ) (j : Journal) (disk : Disk) (t : Told) → Goes j disk t → j.notes.shards ≡ shards → IsFirstAbove j.notes.list.items frontiers
    → (segments : List ℕ) → (said_by t.entries).segments ≡ segments → IsLowestNeeded shards frontiers t disk segments
lowest_needed shards frontiers j disk t goes same above [] is = tt
lowest_needed shards frontiers j disk t goes same above (n ∷ []) is = tt
lowest_needed shards frontiers j disk t goes same above (n ∷ next ∷ others) is =
    let has = has_first j disk t goes n (next, others, is) in
    let count = many j disk t goes n (next, others, is) in
    record {
      many = count;
      file = has.file;
      one = first_above shards frontiers t.found j.notes.list.items n next others (take count t.taken) (goes.noted.1.numbers ∙ is) above
          (subst (λ (k : ℕ). IsFirstNoted k t.found j.notes.list.items (take count t.taken)) same has.noted);
    }
