-- What a crash leaves while a call is under way.
use Rattle.std.proofs.Common.{◌≡◌, ◌⊎◌, inl, inr, ⊎_elim, ◌≤◌, ℕ, List, [], ◌∷◌, ◌++◌, length, take, sym, ap, ◌∙◌, subst, arith, append-nil, length-append}
use Rattle.std.proofs.lemmas.List.{take-append-le, flat_map_more}
use Rattle.cas_types.specs.Limits.{IsShardCount}
use Rattle.cas_disk.specs.Disk.{Disk, Image, Leaves}
use Rattle.cas_disk.proofs.Moments.{leaves_either, no_call, reworded}
use Rattle.cas_atoms.specs.declared.atom.Mutation.{Mutation}
use Rattle.cas_bind.specs.declared.bound.Bound.{Bound}
use Rattle.cas_changes.specs.Allowed.{FitsEntry}
use Rattle.cas_changes.specs.Saying.{said_by}
use Rattle.cas_changes.specs.declared.entry.Entry.{Entry as ManifestEntry}
use Rattle.cas_history.specs.declared.item.Item.{Item}
use Rattle.cas_history.specs.declared.item.Item.TheVariants.{Wrote}
use Rattle.cas_journal.specs.Ends.{IsTold}
use Rattle.cas_journal.specs.Stores.{Told, Holds, HoldsWithRoom, MadeRoom, MayList, failed_at, took}
use Rattle.cas_room.specs.declared.event.Event.{Event}
use Rattle.cas_room.specs.declared.event.Event.TheVariants as event
use Rattle.cas_room.specs.Dropping.{FailedToDrop, StandsDropped}
use Rattle.cas_room.specs.Keeping.{HasTaken, StandsFor as ImageStands, Stores}
use Rattle.cas_room.specs.Rooms.{accepted_in, mutation_of}
use Rattle.cas_room.proofs.Accepting.{has_one_more, has_room}
use Rattle.cas_room.proofs.Flushed.{as_dropped}
use Rattle.cas_room.proofs.Standing.{holds_front}
use Rattle.cas_room.proofs.Tables.{has_failed}
use Rattle.define_laws.proofs.Telling.{named_segments_define_nothing}
use Rattle.cas_lasting.specs.History.{History}
use Rattle.cas_lasting.specs.Entered.{IsLeftAmid}
use Rattle.cas_lasting.specs.Nodes.{State, StandsFor, LastsFor}
use Rattle.cas_lasting.specs.Inner.Definitions.{MayBeTold}
use Rattle.cas_lasting.proofs.Lasting.{few_failed}

pub few_dropped : (before now : List ManifestEntry) → FailedToDrop before now → length before ≤ 1 → length now ≤ 1
few_dropped before now (inl same) few = subst (λ (es : List ManifestEntry). length es ≤ 1) (sym same) few
few_dropped before now (inr one) few = subst (λ (es : List ManifestEntry). length es ≤ 1) (sym one.1) (omega arith)

-- an image that stands for a front of what was accepted by the end of the call, of which this is known
front_amid : (t : Told) (h : History) (found accepted rest : List Mutation) (said : ℕ) (list : List (Item Event)) (c : Image) → accepted_in list ≡ accepted ++ rest
    → h.acknowledged ≤ said → (said_by t.entries).tables ≡ h.tables → length t.failed ≤ 1 → ImageStands (MayList t) found accepted said c → IsLeftAmid found list h c
front_amid t h found accepted rest said list c all acks tables few image = listed image.may
  where
    left : (more : List ManifestEntry) → image.entries ≡ t.entries ++ more → length more ≤ 1 → IsLeftAmid found list h c
    left more are few_more = record {
      entries = image.entries;
      told = t.entries;
      more = more;
      are = are;
      tables = tables;
      few = few_more;
      count = image.count;
      least = omega (arith, acks, image.least);
      most = omega (arith, image.most, ap length all, length-append accepted rest);
      store = subst (λ (ms : List Mutation). Stores image.entries (found ++ ms) c) (sym (ap (take image.count) all ∙ take-append-le image.count accepted rest image.most)) image.store;
    }

    listed : MayList t image.entries → IsLeftAmid found list h c
    listed (inl same) = left [] (same ∙ sym (append-nil t.entries)) (omega arith)
    listed (inr more) = left t.failed more few

-- an image that holds what the journal was told, of which all was accepted by the end of the call
pub holds_amid : (t : Told) (h : History) (found accepted rest : List Mutation) (said : ℕ) (list : List (Item Event)) (c : Image) → accepted_in list ≡ accepted ++ rest
    → HasTaken found accepted said t → h.acknowledged ≤ said → (said_by t.entries).tables ≡ h.tables → length t.failed ≤ 1 → Holds t c → IsLeftAmid found list h c
holds_amid t h found accepted rest said list c all has acks tables few holds =
    front_amid t h found accepted rest said list c all acks tables few (holds_front t found accepted said c has holds)

module _ (h : History) (found : List Mutation) (s : State) (d : Disk) (told : Told) (stands : StandsFor h s) (lasts : LastsFor h found s d told) where
  tables : (said_by told.entries).tables ≡ h.tables
  tables = lasts.tables ∙ sym stands.tables

  all_of : (list : List (Item Event)) → list ≡ s.list → accepted_in list ≡ accepted_in s.list ++ []
  all_of list same = ap accepted_in same ∙ sym (append-nil (accepted_in s.list))

  -- room was made, before anything is accepted
  roomy : (rest : List Mutation) (list : List (Item Event)) → accepted_in list ≡ accepted_in s.list ++ rest → (c : Image) → HoldsWithRoom told c → IsLeftAmid found list h c
  roomy rest list all c (u, made, holds) =
      holds_amid u h found (accepted_in s.list) rest s.committed list c all (has_room found (accepted_in s.list) s.committed told u lasts.keeps.has made) lasts.acknowledged.0
      (ap (λ es. (said_by es).tables) made.entries ∙ (named_segments_define_nothing told.entries made.numbers).0 ∙ tables)
      (few_failed told.failed u.failed made.failed lasts.few) holds

  pub amid_nothing : (list : List (Item Event)) → Leaves (IsLeftAmid found list h) d d
  amid_nothing list = no_call (λ _ c. IsLeftAmid found list h c) d

  -- a mutation wasn't accepted
  pub amid_room : (list : List (Item Event)) (e : Disk) → list ≡ s.list → Leaves (λ c. HoldsWithRoom told c) d e → Leaves (IsLeftAmid found list h) d e
  amid_room list e same leaves =
      reworded (λ _ c. HoldsWithRoom told c) (λ _ c. IsLeftAmid found list h c) d e leaves (λ b c was holds. roomy [] list (all_of list same) c holds)

  -- a mutation was accepted, and then committed or not
  pub amid_taken : (list : List (Item Event)) (m : Mutation) (session call : ℕ) (u : Told) (e f : Disk)
      → list ≡ s.list ++ Wrote m.shard session call m.number (event.Accepted m) ∷ [] → MadeRoom told u
      → Leaves (λ c. HoldsWithRoom told c) d e → Leaves (λ c. Holds (took m u) c) e f → Leaves (IsLeftAmid found list h) d f
  amid_taken list m session call u e f is made first second =
      leaves_either (λ c. HoldsWithRoom told c) (λ c. Holds (took m u) c) (λ c. IsLeftAmid found list h c) d e f first second
      (λ c holds. roomy (m ∷ []) list entered c holds)
      (λ c holds.
      holds_amid (took m u) h found (accepted_in s.list ++ m ∷ []) [] s.committed list c (entered ∙ sym (append-nil (accepted_in s.list ++ m ∷ [])))
      (has_one_more found (accepted_in s.list) s.committed told u m lasts.keeps.has made) lasts.acknowledged.0
      (ap (λ es. (said_by es).tables) made.entries ∙ (named_segments_define_nothing told.entries made.numbers).0 ∙ tables)
      (few_failed told.failed u.failed made.failed lasts.few) holds)
    where
      entered : accepted_in list ≡ accepted_in s.list ++ m ∷ []
      entered = ap accepted_in is ∙ sym (flat_map_more mutation_of [] s.list (Wrote m.shard session call m.number (event.Accepted m)))

  -- a definition was told to the manifest, or the disk failed
  pub amid_defined : (list : List (Item Event)) (x : ManifestEntry) (e : Disk) → list ≡ s.list → FitsEntry (said_by told.entries) x → IsTold x
      → Leaves (λ c. Holds told c ⊎ Holds (failed_at x told) c) d e → Leaves (IsLeftAmid found list h) d e
  amid_defined list x e same fits is leaves =
      reworded (λ _ c. Holds told c ⊎ Holds (failed_at x told) c) (λ _ c. IsLeftAmid found list h c) d e leaves
      (λ b c was either. ⊎_elim
      (λ holds. holds_amid told h found (accepted_in s.list) [] s.committed list c (all_of list same) lasts.keeps.has lasts.acknowledged.0 tables lasts.few holds)
      (λ holds.
      holds_amid (failed_at x told) h found (accepted_in s.list) [] s.committed list c (all_of list same)
      (has_failed found (accepted_in s.list) s.committed told x lasts.keeps.has fits is) lasts.acknowledged.0 tables (omega arith) holds) either)

  -- segments were dropped
  pub amid_dropped : (list : List (Item Event)) (e : Disk) → list ≡ s.list → Leaves (λ c. StandsDropped told found (accepted_in s.list) s.committed c) d e → Leaves (IsLeftAmid found list h) d e
  amid_dropped list e same leaves =
      reworded (λ _ c. StandsDropped told found (accepted_in s.list) s.committed c) (λ _ c. IsLeftAmid found list h c) d e leaves
      (λ b c was some.
      front_amid some.0 h found (accepted_in s.list) [] s.committed list c (all_of list same) lasts.acknowledged.0
      (ap (λ es. (said_by es).tables) some.1.entries ∙ (as_dropped told.entries some.1.numbers).tables ∙ tables)
      (few_dropped told.failed some.0.failed some.1.failed lasts.few) some.2)

-- the folder is as it was
pub amid_still : {X : Type 0} (h : History) (found : List Mutation) (s : State) (x y : X) (told : Told) (disk : X → Disk) → StandsFor h s → LastsFor h found s (disk x) told
    → (list : List (Item Event)) → y ≡ x → Leaves (IsLeftAmid found list h) (disk x) (disk y)
amid_still h found s x y told disk stands lasts list same =
    subst (λ z. Leaves (IsLeftAmid found list h) (disk x) (disk z)) (sym same) (amid_nothing h found s (disk x) told stands lasts list)

-- what defines a table may be told, whatever was told before
pub fits_told : (h : History) (found : List Mutation) (s : State) (d : Disk) (told : Told) (b : Bound) (x : ManifestEntry) → MayBeTold s.tables b x → IsShardCount s.limits.shards
    → LastsFor h found s d told → FitsEntry (said_by told.entries) x
fits_told h found s d told b x may some lasts = (may.tells (said_by told.entries) lasts.tables (omega (arith, lasts.shards, some.0))).fits
