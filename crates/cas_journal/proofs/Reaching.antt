-- When a journal is full.
use Rattle.std.proofs.Common.{◌≡◌, inl, inr, ℕ, ◌+◌, ◌<◌, ◌≤◌, Bool, true, false, ltb, leb, Option, None, Some, Result, Err, refl, ap, subst, ◌∙◌, arith}
use Rattle.std.specs.Prelude.{if◌then◌else◌}
use Rattle.std.proofs.lemmas.Bool.{leb-true, ltb-true}
use Rattle.cas_codec.specs.Fields.{u8, u64}
use Rattle.cas_changes.specs.declared.entry.Entry.{Entry}
use Rattle.cas_changes.specs.declared.entry.Entry.TheVariants as entry
use Rattle.cas_changes.specs.declared.said.TheConstants.{FILE_LIMIT, LISTED_LIMIT, SEGMENT_LIMIT}
use Rattle.cas_changes.specs.Saying.{listed_after}
use Rattle.cas_log.specs.Logs.{place_of}
use Rattle.cas_log.specs.declared.log.Log.{Log}
use Rattle.cas_manifest.specs.Manifests.{place_of as manifest_place, room_of}
use Rattle.cas_manifest.specs.declared.fault.Limit.TheVariants.{Bytes, Files}
use Rattle.cas_manifest.specs.declared.fault.ManifestFault.TheVariants.{TooMany as ManyOfManifest}
use Rattle.cas_journal.specs.Ends.{entry_limit, next_limit, refused, Limits, IsDefinition, IsTold}
use Rattle.cas_journal.specs.Reach.{HasNoPlace, IsFull, IsOver, Reach, name_room, reach_dropped, reach_of}
use Rattle.cas_journal.specs.declared.fault.Counted.{Counted}
use Rattle.cas_journal.specs.declared.fault.Counted.TheVariants.{Segments, Manifest, Files as TableFiles}
use Rattle.cas_journal.specs.declared.fault.JournalFault.{JournalFault}
use Rattle.cas_journal.specs.declared.fault.JournalFault.TheVariants.{TooMany}
use Rattle.cas_journal.specs.declared.journal.Journal.{Journal}

-- ---- an entry that is told

abbrev Over : Counted → ℕ → ℕ → Type 0
Over Manifest listed long = FILE_LIMIT < long
Over TableFiles listed long = LISTED_LIMIT < listed
Over Segments listed long = ⊥

counted_in : Option JournalFault → Counted
counted_in (Some (TooMany what most)) = what
counted_in _ = Segments

over_by : (a b : Bool) (listed long : ℕ) (what : Counted) (most : ℕ) → ltb LISTED_LIMIT listed ≡ a → ltb FILE_LIMIT long ≡ b
    → refused (if a then Some (ManyOfManifest Files LISTED_LIMIT) else if b then Some (ManyOfManifest Bytes FILE_LIMIT) else None) ≡ Some (TooMany what most)
    → Over what listed long
unfolding counted_in
over_by true b listed long what most many more is = subst (λ (w : Counted). Over w listed long) (ap counted_in is) (ltb-true LISTED_LIMIT listed many)
over_by false true listed long what most many more is = subst (λ (w : Counted). Over w listed long) (ap counted_in is) (ltb-true FILE_LIMIT long more)
over_by false false listed long what most many more is = absurd cc

over_is : (j : Journal) (e : Entry) (what : Counted) → Over what (listed_after j.manifest.listed e) ((manifest_place j.manifest).end + room_of e + 1) → IsOver what e j
over_is j e Manifest over = omega (arith, over)
over_is j e TableFiles over = over
over_is j e Segments over = over

-- what there is too much of, where an entry is refused for a limit
pub told_over : (j : Journal) (e : Entry) (r : Result (Unit {0}) JournalFault) → Limits (entry_limit j e) r → (what : Counted) (most : ℕ) → r ≡ Err (TooMany what most)
    → IsOver what e j
told_over j e r limits what most is =
    over_is j e what
    (over_by (ltb LISTED_LIMIT (listed_after j.manifest.listed e)) (ltb FILE_LIMIT ((manifest_place j.manifest).end + room_of e + 1))
    (listed_after j.manifest.listed e) ((manifest_place j.manifest).end + room_of e + 1) what most refl refl
    (subst (λ (q : Result (Unit {0}) JournalFault). Limits (entry_limit j e) q) is limits))

-- a definition is told
pub definition_told : (e : Entry) → IsDefinition e → IsTold e
definition_told (entry.Schema t) is = tt
definition_told (entry.AddColumns table columns) is = tt
definition_told (entry.Store shards) is = is
definition_told (entry.NewSegment n) is = is
definition_told (entry.DropSegment n) is = is
definition_told (entry.Change c) is = absurd is

-- a definition lists no file
pub definition_over : (j : Journal) (e : Entry) → IsDefinition e → (what : Counted) → IsOver what e j → HasNoPlace e (reach_of j)
definition_over j e is Manifest over = over
definition_over j e is TableFiles over = absurd (omega (arith, lists_none e is, over, j.manifest.few))
  where
    lists_none : (e : Entry) → IsDefinition e → listed_after j.manifest.listed e ≡ j.manifest.listed
    lists_none (entry.Schema t) is = refl
    lists_none (entry.AddColumns table columns) is = refl
    lists_none (entry.Store shards) is = absurd is
    lists_none (entry.NewSegment n) is = absurd is
    lists_none (entry.DropSegment n) is = absurd is
    lists_none (entry.Change c) is = absurd is
definition_over j e is Segments over = absurd over

-- ---- the name of a segment

-- the name of a segment
name_long : (n : ℕ) → room_of (entry.NewSegment n) ≡ name_room
unfolding u8 u64
name_long n = refl

drop_long : (n : ℕ) → room_of (entry.DropSegment n) ≡ name_room
unfolding u8 u64
drop_long n = refl

-- ---- segments that are dropped

pub none_dropped : (r : Reach) → r ≡ reach_dropped 0 r
none_dropped r = ap (λ (m : ℕ). record r { manifest = m }) (omega arith)

pub one_more_dropped : (n number : ℕ) (before r now : Reach) → r ≡ reach_dropped n before → now ≡ record { segment = r.segment; manifest = r.manifest + room_of (entry.DropSegment number) }
    → now ≡ reach_dropped (n + 1) before
one_more_dropped n number before r now was is =
    is ∙ ap (λ (q : Reach). record { segment = q.segment; manifest = q.manifest + room_of (entry.DropSegment number) }) was
    ∙ ap (λ (m : ℕ). record { segment = before.segment; manifest = m }) (omega (arith, drop_long number))

-- an entry that lists no file is refused for its bytes alone
no_place_by : (a b : Bool) (listed long : ℕ) (what : Counted) (most : ℕ) → ltb LISTED_LIMIT listed ≡ a → ltb FILE_LIMIT long ≡ b → listed ≤ LISTED_LIMIT
    → refused (if a then Some (ManyOfManifest Files LISTED_LIMIT) else if b then Some (ManyOfManifest Bytes FILE_LIMIT) else None) ≡ Some (TooMany what most)
    → FILE_LIMIT < long
no_place_by true b listed long what most many more few is = let above : LISTED_LIMIT < listed = ltb-true LISTED_LIMIT listed many in absurd (omega (arith, above, few))
no_place_by false true listed long what most many more few is = ltb-true FILE_LIMIT long more
no_place_by false false listed long what most many more few is = absurd cc

no_place : (j : Journal) (e : Entry) (what : Counted) (most : ℕ) → listed_after j.manifest.listed e ≡ j.manifest.listed → entry_limit j e ≡ Some (TooMany what most)
    → HasNoPlace e (reach_of j)
no_place j e what most same is =
    let limit : FILE_LIMIT < (manifest_place j.manifest).end + room_of e + 1 =
    no_place_by (ltb LISTED_LIMIT (listed_after j.manifest.listed e)) (ltb FILE_LIMIT ((manifest_place j.manifest).end + room_of e + 1))
    (listed_after j.manifest.listed e) ((manifest_place j.manifest).end + room_of e + 1) what most refl refl (omega (arith, same, j.manifest.few)) is in
    omega (arith, limit)

name_full : (j : Journal) (n : ℕ) (what : Counted) (most : ℕ) → entry_limit j (entry.NewSegment n) ≡ Some (TooMany what most) → IsFull (reach_of j)
name_full j n what most is =
    let long : HasNoPlace (entry.NewSegment n) (reach_of j) = no_place j (entry.NewSegment n) what most refl is in
    inr (omega (arith, long, name_long n))

numbers_full : (j : Journal) (b : Bool) (what : Counted) (most : ℕ) → leb SEGMENT_LIMIT j.last_segment ≡ b
    → (if b then Some (TooMany Segments SEGMENT_LIMIT) else entry_limit j (entry.NewSegment (j.last_segment + 1))) ≡ Some (TooMany what most) → IsFull (reach_of j)
numbers_full j true what most last is = inl (leb-true SEGMENT_LIMIT j.last_segment last)
numbers_full j false what most last is = name_full j (j.last_segment + 1) what most is

-- where naming the next segment would pass a limit
pub next_full : (o : Option Log) (j : Journal) (what : Counted) (most : ℕ) → next_limit o j ≡ Some (TooMany what most) → IsFull (reach_of j)
next_full (Some log) j what most is = name_full j (place_of log).number what most is
next_full None j what most is = numbers_full j (leb SEGMENT_LIMIT j.last_segment) what most refl is
