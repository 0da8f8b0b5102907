-- Along a run the mutations of each shard are numbered upwards.
use Rattle.std.proofs.Common.{◌≡◌, ◌≤◌, ◌<◌, ◌+◌, inl, inr, ⊎_elim, ℕ, zero, suc, ℤ, List, [], ◌∷◌, ◌++◌, length, map, refl, sym, ap, ◌∙◌, subst, arith, append-nil, Result, Ok, Err}
use Rattle.std.specs.Prelude.{slice_set, slice_index_or, ◌⊎◌}
use Rattle.cas_history.specs.Hands.{numbers}
use Rattle.cas_atoms.specs.declared.atom.Mutation.{Mutation}
use Rattle.cas_disk.specs.Disk.{Disk}
use Rattle.cas_bind.specs.declared.bound.Bound.{Bound}
use Rattle.cas_bind.specs.declared.bound.Bound.TheVariants as bound
use Rattle.cas_bind.specs.Meaning.{meaning}
use Rattle.cas_changes.specs.Saying.{said_by}
use Rattle.cas_changes.specs.declared.entry.Entry.{Entry as ManifestEntry}
use Rattle.cas_effects.specs.declared.effect.BoundWrite.{BoundWrite}
use Rattle.cas_effects.specs.declared.refusal.Refusal.{Refusal}
use Rattle.cas_effects.specs.AtomsOf.{mutation_of}
use Rattle.cas_shard.specs.declared.entry.Entry.{Entry}
use Rattle.cas_shard.specs.declared.entry.Entry.TheVariants as entry
use Rattle.cas_render.specs.declared.reply.Failure.TheVariants as failure
use Rattle.cas_render.specs.declared.reply.Reply.{Reply}
use Rattle.cas_render.specs.declared.reply.Reply.TheVariants as reply
use Rattle.cas_shard.specs.declared.entry.ShardOpening.{ShardOpening}
use Rattle.cas_shard.specs.Shards.{ShardHistory, empty_shard, found_shard, moment_at, mutation_at, number_of}
use Rattle.cas_shard.specs.Stands.{NumbersRise}
use Rattle.cas_shard.proofs.Numbering.{all_stand, one_entered}
use Rattle.cas_words.specs.declared.words.ClockKind.{ClockKind}
use Rattle.cas_lasting.specs.History.{History, DiskState, Does, Takes, shard_at, after_entries, with_shard}
use Rattle.cas_node.proofs.Along.{along}
use Rattle.cas_recovery.specs.Found.{AreOfAStore}
use Rattle.cas_recovery.specs.Openings.{AreOpenings}
use Rattle.cas_recovery.proofs.Explained.{as_opening}
use Rattle.cas_lasting.specs.Starts.{start}
use Rattle.cas_node.specs.Laws.{AllRise, FoundRise, NumbersStay, AllAreRead}
use Rattle.cas_recovery.proofs.Founding.{none_read}
use Rattle.cas_lasting.proofs.Serving.{numbered, many_mapped, many_numbers}

-- ---- a shard

-- the moment has nothing to do with it, and neither have no entries
raised_rise : (s : ShardHistory) (moment : ℤ) → NumbersRise s → NumbersRise (record s { entries = s.entries ++ []; moment = moment })
raised_rise s moment h =
    subst (λ (es : List Entry). NumbersRise (record s { entries = es; moment = moment })) (sym (append-nil s.entries))
    (record { ascend = h.ascend; found = h.found; rise = h.rise })

entered_rise : (s : ShardHistory) (moment : ℤ) (session call : ℕ) (m : Mutation) → m.number ≡ number_of s + 1 → NumbersRise s
    → NumbersRise (record s { entries = s.entries ++ entry.Wrote session call m ∷ []; moment = moment })
entered_rise s moment session call m next h =
    let more = one_entered session call m s h next in
    record { ascend = more.ascend; found = more.found; rise = more.rise }

next_is : (reading : ℤ) (s : ShardHistory) (w : BoundWrite) → (mutation_at reading s w).number ≡ number_of s + 1
unfolding mutation_at mutation_of
next_is reading s w = refl

module _ (reading : ℤ) (s : ShardHistory) (session call : ℕ) (m : Mutation) (next : m.number ≡ number_of s + 1) (rise : NumbersRise s) where
  none : (entries : List Entry) → entries ≡ [] → NumbersRise (after_entries reading entries s)
  none entries e = subst (λ (es : List Entry). NumbersRise (after_entries reading es s)) (sym e) (raised_rise s (moment_at reading s) rise)

  one : (entries : List Entry) → entries ≡ entry.Wrote session call m ∷ [] → NumbersRise (after_entries reading entries s)
  one entries e = subst (λ (es : List Entry). NumbersRise (after_entries reading es s)) (sym e) (entered_rise s (moment_at reading s) session call m next rise)

  taken : (segment : ℕ) (d : DiskState) (r : Reply) (entries : List Entry) (e : DiskState) → Takes segment m (entry.Wrote session call m) d r entries e
      → NumbersRise (after_entries reading entries s)
  taken segment d reply.Done entries e t = absurd t
  taken segment d (reply.Wrote number) entries e t = one entries t.2
  taken segment d (reply.Rows rows shard front now) entries e t = absurd t
  taken segment d (reply.Flushed files) entries e t = absurd t
  taken segment d (reply.Verified files) entries e t = absurd t
  taken segment d (reply.Status tables) entries e t = absurd t
  taken segment d (reply.Refused why) entries e t = none entries t.1
  taken segment d (reply.Failed failure.Memory) entries e t = none entries t.0
  taken segment d (reply.Failed failure.Stopped) entries e t = none entries t.1
  taken segment d (reply.Failed failure.Disk) entries e t = ⊎_elim (none entries) (one entries) t.1
  taken segment d (reply.Failed failure.Read) entries e t = absurd t
  taken segment d (reply.Failed (failure.Block n at)) entries e t = absurd t

-- ---- a history

pub at_place : {X : Type 0} (P : X → Type 0) (xs : List X) (n m : ℕ) (y d : X) → P y → P (slice_index_or xs m d) → P (slice_index_or (slice_set xs n y) m d)
at_place P [] n m y d p q = q
at_place P (x ∷ xs) zero zero y d p q = p
at_place P (x ∷ xs) zero (suc m) y d p q = q
at_place P (x ∷ xs) (suc n) zero y d p q = q
at_place P (x ∷ xs) (suc n) (suc m) y d p q = at_place P xs n m y d p q

shard_keeps : (h : History) (n : ℕ) (s : ShardHistory) → AllRise h → NumbersRise s → AllRise (with_shard h n s)
shard_keeps h n s all new m = at_place NumbersRise h.shards n m s (found_shard empty_shard) new (all m)

does_keeps : (kind : ClockKind) (Gives : ℤ → Type 0) (h : History) (m : Result Bound Refusal) (r : Reply) (t : History) → Does kind Gives h m r t → AllRise h → AllRise t
does_keeps kind Gives h (Err x) r t a all = subst AllRise (sym a.1) all
does_keeps kind Gives h (Ok (bound.Create x)) r t a all = subst AllRise (sym a.3) all
does_keeps kind Gives h (Ok (bound.Alter x)) r t a all = subst AllRise (sym a.3) all
does_keeps kind Gives h (Ok (bound.Write w)) r t a all =
    let (reading, is, (entries, e, takes, after)) = a in
    subst AllRise (sym after)
    (shard_keeps h w.shard (after_entries reading entries (shard_at h w.shard)) all
    (taken reading (shard_at h w.shard) h.session (h.calls + 1) (mutation_at reading (shard_at h w.shard) w) (next_is reading (shard_at h w.shard) w) (all w.shard)
    h.limits.segment h.disk r entries e takes))
does_keeps kind Gives h (Ok (bound.Read q)) r t a all =
    let (reading, is, (reads, more, shows, after)) = a in
    subst AllRise (sym after)
    (shard_keeps h q.shard (after_entries reading [] (shard_at h q.shard)) all (raised_rise (shard_at h q.shard) (moment_at reading (shard_at h q.shard)) (all q.shard)))

pub numbers_stay : (Gives : ℤ → Type 0) → NumbersStay Gives
numbers_stay Gives kind h after ls os all runs =
    along kind Gives AllRise (λ h left full changes trimmed e so. so) (λ h seconds when so. so)
    (λ h s answer after spelled does so. does_keeps kind Gives h (meaning h.limits.shards h.tables s) answer after does so) h after ls os runs all

-- ---- the beginning, and what is read

pub below_or_past : (n m : ℕ) → (n < m) ⊎ (m ≤ n)
below_or_past n zero = inr (omega arith)
below_or_past zero (suc m) = inl (omega arith)
below_or_past (suc n) (suc m) = next (below_or_past n m)
  where
    next : (n < m) ⊎ (m ≤ n) → (suc n < suc m) ⊎ (suc m ≤ suc n)
    next (inl lt) = inl (omega (arith, lt))
    next (inr le) = inr (omega (arith, le))

pub past : {X : Type 0} (xs : List X) (n : ℕ) (d : X) → length xs ≤ n → slice_index_or xs n d ≡ d
past [] n d le = refl
past (x ∷ xs) zero d le = absurd (omega (arith, le))
past (x ∷ xs) (suc n) d le = past xs n d (omega (arith, le))

-- each of the shards that a history begins with
abbrev pub first_shards : List ManifestEntry → (ℕ → ShardOpening) → List ShardHistory
first_shards entries openings = map (λ (k : ℕ). found_shard (openings k)) (numbers 0 (said_by entries).shards)

first_rise : (entries : List ManifestEntry) (mutations : List Mutation) (folder : Disk) (openings : ℕ → ShardOpening) → AreOfAStore entries mutations
    → AreOpenings entries mutations folder openings → (n : ℕ) → NumbersRise (slice_index_or (first_shards entries openings) n (found_shard empty_shard))
first_rise entries mutations folder openings store are n = ⊎_elim here beyond (below_or_past n (said_by entries).shards)
  where
    here : n < (said_by entries).shards → NumbersRise (slice_index_or (first_shards entries openings) n (found_shard empty_shard))
    here lt =
        let same : 0 + n ≡ n = omega arith in
        subst NumbersRise
        (sym (numbered (λ (k : ℕ). found_shard (openings k)) (found_shard empty_shard) 0 (said_by entries).shards n lt
        ∙ ap (λ (k : ℕ). found_shard (openings k)) same))
        (as_opening entries mutations store.log folder n (openings n) lt (are n lt)).rise

    beyond : (said_by entries).shards ≤ n → NumbersRise (slice_index_or (first_shards entries openings) n (found_shard empty_shard))
    beyond le =
        let many : length (first_shards entries openings) ≡ (said_by entries).shards =
        many_mapped (λ (k : ℕ). found_shard (openings k)) (numbers 0 (said_by entries).shards) ∙ many_numbers 0 (said_by entries).shards in
        subst NumbersRise (sym (past (first_shards entries openings) n (found_shard empty_shard) (omega (arith, many, le)))) none_read.rises

pub found_rise : (folder : Disk) → FoundRise folder
unfolding start
found_rise folder l entries mutations openings session disk store are n = first_rise entries mutations folder openings store are n

pub all_are_read : AllAreRead
all_are_read s h table key = all_stand s table key h
