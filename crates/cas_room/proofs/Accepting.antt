-- The room's list with one mutation more, and what the room keeps of it.
use Rattle.std.proofs.Common.{◌≡◌, ℕ, ◌+◌, ◌-◌, ◌^◌, ◌≤◌, min, List, [], ◌∷◌, ◌++◌, length, take, sym, ap, subst, ◌∙◌, arith, append_assoc, length-append}
use Rattle.std.proofs.lemmas.List.{append-nil}
use Rattle.std.proofs.lemmas.Grind.{flat_map-append}
use Rattle.cas_disk.specs.Disk.{Disk}
use Rattle.cas_atoms.specs.declared.atom.Mutation.{Mutation}
use Rattle.cas_changes.specs.Saying.{said_by}
use Rattle.cas_changes.specs.declared.entry.Entry.{Entry}
use Rattle.cas_history.specs.declared.item.Item.{Item}
use Rattle.cas_history.specs.declared.item.Item.TheVariants.{Wrote}
use Rattle.cas_journal.specs.Stores.{Found, Told, MadeRoom, took}
use Rattle.cas_journal.specs.Journals.{Lasts}
use Rattle.cas_journal.specs.declared.journal.Journal.{Journal}
use Rattle.cas_room.specs.declared.event.Event.{Event}
use Rattle.cas_room.specs.declared.event.Event.TheVariants as event
use Rattle.cas_room.specs.Rooms.{accepted_in, mutation_of}
use Rattle.cas_room.specs.Keeping.{AreFlushed, HasTaken, Keeps}
use Rattle.cas_room.proofs.Flushed.{SaysAs, as_named, flushed_alike, may_fail_alike, named_may_fail, take_more}

-- ---- one mutation more

more_accepted : (list : List (Item Event)) (e : Item Event) → accepted_in (list ++ e ∷ []) ≡ accepted_in list ++ mutation_of e
more_accepted list e = flat_map-append mutation_of list (e ∷ []) ∙ ap (λ (ms : List Mutation). accepted_in list ++ ms) (append-nil (mutation_of e))

-- the room's count of its mutations
pub counts_one_more : (n : ℕ) (list : List (Item Event)) (shard session call number : ℕ) (m : Mutation) → n ≤ length (accepted_in list)
    → min (n + 1) (2 ^ 64 - 1) ≤ length (accepted_in (list ++ Wrote shard session call number (event.Accepted m) ∷ []))
counts_one_more n list shard session call number m few =
    let e : Item Event = Wrote shard session call number (event.Accepted m) in
    let more : length (accepted_in (list ++ e ∷ [])) ≡ length (accepted_in list) + 1 =
    ap length (more_accepted list e) ∙ length-append (accepted_in list) (m ∷ []) in
    omega (arith, few, more)

-- room was made
pub has_room : (found accepted : List Mutation) (said : ℕ) (t u : Told) → HasTaken found accepted said t → MadeRoom t u → HasTaken found accepted said u
has_room found accepted said t u has made =
    let alike : SaysAs (said_by t.entries) (said_by u.entries) =
    subst (λ (es : List Entry). SaysAs (said_by t.entries) (said_by es)) (sym made.entries) (as_named t.entries made.numbers) in
    let first : take u.leaving u.taken ≡ take t.leaving t.taken = λ i. take (made.leaving i) (made.taken i) in
    record {
      origin = ap (λ (f : Found). f.mutations) made.found ∙ has.origin;
      dropped = has.dropped;
      all = ap (λ (ms : List Mutation). has.dropped ++ ms) made.taken ∙ has.all;
      committed = omega (arith, has.committed, made.committed);
      flushed = flushed_alike (said_by t.entries) (said_by u.entries) alike has.dropped has.flushed;
      few = omega (arith, has.few, made.leaving, ap length made.taken);
      leaving = subst (AreFlushed u.entries) (sym first) (flushed_alike (said_by t.entries) (said_by u.entries) alike (take t.leaving t.taken) has.leaving);
      failing = named_may_fail (said_by u.entries) t.failed u.failed made.failed (may_fail_alike (said_by t.entries) (said_by u.entries) alike t.failed has.failing);
    }

-- and a mutation was pushed
pub has_one_more : (found accepted : List Mutation) (said : ℕ) (t u : Told) (m : Mutation) → HasTaken found accepted said t → MadeRoom t u
    → HasTaken found (accepted ++ m ∷ []) said (took m u)
has_one_more found accepted said t u m has made =
    let got = has_room found accepted said t u has made in
    let few : u.leaving ≤ length u.taken = got.few in
    record {
      origin = got.origin;
      dropped = got.dropped;
      all = sym (append_assoc got.dropped u.taken (m ∷ [])) ∙ ap (λ (ms : List Mutation). ms ++ m ∷ []) got.all ∙ append_assoc found accepted (m ∷ []);
      committed = got.committed;
      flushed = got.flushed;
      few = omega (arith, few, length-append u.taken (m ∷ []));
      leaving = subst (AreFlushed u.entries) (sym (take_more u.leaving u.taken (m ∷ []) few)) got.leaving;
      failing = got.failing;
    }

-- what the room keeps, once room was made and the mutation was pushed
pub keeps_one_more : (j : Journal) (disk : Disk) (list : List (Item Event)) (said : ℕ) (found : List Mutation) (t u : Told)
    (shard session call number : ℕ) (m : Mutation)
    → HasTaken found (accepted_in list) said t → MadeRoom t u → Lasts j disk (took m u)
    → Keeps j disk (list ++ Wrote shard session call number (event.Accepted m) ∷ []) said found (took m u)
keeps_one_more j disk list said found t u shard session call number m has made lasts = record {
  lasts = lasts;
  has = subst (λ (ms : List Mutation). HasTaken found ms said (took m u)) (sym (more_accepted list (Wrote shard session call number (event.Accepted m))))
      (has_one_more found (accepted_in list) said t u m has made);
}
