-- What the journal holds of each image, in the words of the room's list.
use Rattle.std.proofs.Common.{◌≡◌, ⊎_elim, inl, inr, ℕ, ◌+◌, ◌-◌, ◌≤◌, List, ◌++◌, length, take, drop, refl, sym, ap, subst, ◌∙◌, arith, append_assoc, length-append}
use Rattle.std.proofs.lemmas.List.{take-append-drop}
use Rattle.std.proofs.Math.Seq.{take-append-add}
use Rattle.cas_disk.specs.Disk.{Image, Disk, During}
use Rattle.cas_disk.proofs.Moments.{reworded}
use Rattle.cas_atoms.specs.declared.atom.Mutation.{Mutation}
use Rattle.cas_changes.specs.Allowed.{FitsEntry}
use Rattle.cas_changes.specs.Saying.{said_by}
use Rattle.cas_changes.specs.declared.entry.Entry.{Entry}
use Rattle.cas_history.specs.declared.item.Item.{Item}
use Rattle.cas_journal.specs.Ends.{IsTold}
use Rattle.cas_journal.specs.Stores.{Told, HaveGone, Holds, IsStore, MayList, committed_all, failed_at}
use Rattle.cas_journal.specs.declared.journal.Journal.{Journal}
use Rattle.cas_room.specs.declared.event.Event.{Event}
use Rattle.cas_room.specs.Rooms.{accepted_in}
use Rattle.cas_room.specs.Keeping.{AreFlushed, HasTaken, IsFlushed, Keeps, StandsFor, Stores}
use Rattle.cas_room.specs.Changing.{HoldsSettled, StandsAmid}
use Rattle.cas_room.proofs.Flushed.{all_both, all_of_front, flushed_failed}
use Rattle.cas_room.proofs.Tables.{has_failed, has_said}

-- so many of what was found and accepted are all that was found, and the first of what was accepted
front_is : (found accepted : List Mutation) (n : ℕ) → length found ≤ n → take n (found ++ accepted) ≡ found ++ take (n - length found) accepted
front_is found accepted n more =
    let sum : n ≡ length found + (n - length found) = omega (arith, more) in
    ap (λ (k : ℕ). take k (found ++ accepted)) sum ∙ take-append-add found accepted (n - length found)

-- those whose segments were dropped, and the first of those that were taken
pub front_of : (dropped taken found accepted : List Mutation) (count : ℕ) → dropped ++ taken ≡ found ++ accepted → length found ≤ length dropped + count
    → found ++ take (length dropped + count - length found) accepted ≡ dropped ++ take count taken
front_of dropped taken found accepted count all more =
    sym (front_is found accepted (length dropped + count) more) ∙ ap (take (length dropped + count)) (sym all) ∙ take-append-add dropped taken count

-- what is listed, whether the entry that failed is there or not
flushed_listed : (t : Told) (found accepted : List Mutation) (said : ℕ) → (has : HasTaken found accepted said t) → (entries : List Entry) → MayList t entries → (ms : List Mutation)
    → AreFlushed t.entries ms → AreFlushed entries ms
flushed_listed t found accepted said has entries may ms all =
    ⊎_elim (λ same. subst (λ (es : List Entry). AreFlushed es ms) (sym same) all)
    (λ more. subst (λ (es : List Entry). AreFlushed es ms) (sym more) (flushed_failed t.entries t.failed has.failing ms all)) may

-- an image with these entries, of which so many are gone from the front, has a front of what was accepted
stores_front : (t : Told) (found accepted : List Mutation) (said : ℕ) (c : Image) → (has : HasTaken found accepted said t) → (entries : List Entry) → MayList t entries → (gone count : ℕ)
    → HaveGone t entries gone → t.committed ≤ count → IsStore entries (drop gone (take count t.taken)) c
    → Stores entries (found ++ take (length has.dropped + count - length found) accepted) c
stores_front t found accepted said c has entries may gone count front least store =
    let are = front_of has.dropped t.taken found accepted count has.all (omega (arith, has.committed, least)) in
    let first = flushed_listed t found accepted said has entries may has.dropped has.flushed in
    ⊎_elim (λ none. record {
      dropped = has.dropped;
      logged = take count t.taken;
      are = are;
      flushed = first;
      store = subst (λ (n : ℕ). IsStore entries (drop n (take count t.taken)) c) none store;
    }) (λ some. record {
      dropped = has.dropped ++ take gone (take count t.taken);
      logged = drop gone (take count t.taken);
      are = are ∙ ap (λ (ms : List Mutation). has.dropped ++ ms) (sym (take-append-drop gone (take count t.taken)))
          ∙ sym (append_assoc has.dropped (take gone (take count t.taken)) (drop gone (take count t.taken)));
      flushed =
          all_both (IsFlushed (said_by entries)) has.dropped (take gone (take count t.taken)) first
          (subst (λ (n : ℕ). AreFlushed entries (take n (take count t.taken))) (sym some.1)
          (all_of_front (IsFlushed (said_by entries)) t.leaving count t.taken (flushed_listed t found accepted said has entries may (take t.leaving t.taken) has.leaving)));
      store = store;
    }) front

-- an image that holds what the journal was told stands for a front
pub holds_front : (t : Told) (found accepted : List Mutation) (said : ℕ) (c : Image) → HasTaken found accepted said t → Holds t c → StandsFor (MayList t) found accepted said c
holds_front t found accepted said c has holds =
    let long : length has.dropped + length t.taken ≡ length found + length accepted =
    sym (length-append has.dropped t.taken) ∙ ap length has.all ∙ length-append found accepted in
    record {
      entries = holds.entries;
      may = holds.listed;
      count = length has.dropped + holds.count - length found;
      least = omega (arith, has.committed, holds.least);
      most = omega (arith, long, holds.most, has.committed, holds.least);
      store = stores_front t found accepted said c has holds.entries holds.listed holds.gone holds.count holds.front holds.least holds.store;
    }

-- it lacks no more than what wasn't committed
pub front_lacks : (t : Told) (found accepted : List Mutation) (said : ℕ) (c : Image) → (has : HasTaken found accepted said t) → (holds : Holds t c)
    → t.committed + length accepted ≤ length t.taken + (holds_front t found accepted said c has holds).count
unfolding holds_front
front_lacks t found accepted said c has holds =
    let long : length has.dropped + length t.taken ≡ length found + length accepted =
    sym (length-append has.dropped t.taken) ∙ ap length has.all ∙ length-append found accepted in
    omega (arith, long, has.committed, holds.least)

pub images_stand : (j : Journal) (disk : Disk) (list : List (Item Event)) (said : ℕ) (found : List Mutation) (t : Told) → Keeps j disk list said found t
    → (c : Image) → disk.may_leave c → StandsFor (MayList t) found (accepted_in list) said c
images_stand j disk list said found t keeps c left = holds_front t found (accepted_in list) said c keeps.has (keeps.lasts.holds c left)

-- while files are changed
pub settled_stands : (t : Told) (e : Entry) (found accepted : List Mutation) (said : ℕ) (a z : Disk) → HasTaken found accepted said t → FitsEntry (said_by t.entries) e → IsTold e
    → During (λ _ c. HoldsSettled t e c) a z → During (λ _ c. StandsAmid t e found accepted said c) a z
settled_stands t e found accepted said a z has fits told call =
    let long : length has.dropped + length t.taken ≡ length found + length accepted =
    sym (length-append has.dropped t.taken) ∙ ap length has.all ∙ length-append found accepted in
    let all : HasTaken found accepted (length accepted) (committed_all t) = has_said found accepted said (length accepted) t (committed_all t) has refl refl refl refl refl (omega (arith, long)) in
    reworded (λ _ c. HoldsSettled t e c) (λ _ c. StandsAmid t e found accepted said c) a z call
    (λ d c was settled. ⊎_elim (λ holds. inl (holds_front t found accepted said c has holds))
    (λ holds. inr (holds_front (failed_at e (committed_all t)) found accepted (length accepted) c (has_failed found accepted (length accepted) (committed_all t) e all fits told) holds)) settled)
