use Rattle.std.proofs.Common.{◌≡◌, ◌≢◌, ℕ, ◌<◌, ◌≤◌, ◌∙◌, [], ◌∷◌, true, ap, refl, sym, subst, inl, inr, ⊎_elim, arith}
use Rattle.std.proofs.lemmas.List.Sums.{fold-append}
use Rattle.cas_history.specs.Hands.{Owns}
use Rattle.cas_history.specs.Log.{Has}
use Rattle.cas_history.proofs.LogLists.{each_at}
use Rattle.cas_history.proofs.Parts.{gets, begins}
use Rattle.cas_refs.specs.Counts.{at}
use Rattle.cas_history.specs.Items.{items, listed, front_list, changes_list, room_changes, book_changes, Distinct}
use Rattle.cas_history.specs.Last.{all_added, files_of, last_number, number_after}
use Rattle.cas_lifecycle.specs.Books.{is_live, Booked}
use Rattle.cas_history.proofs.Once.{listed_once}
use Rattle.cas_lifecycle.proofs.Listed.{removed_gone, was_listed, was_before, shards_apart}
use Rattle.cas_lifecycle.proofs.Books.{booked_gets}
use Rattle.cas_history.proofs.Shares.{book_copies}
use Rattle.cas_history.proofs.Lists.{same_or}
use Rattle.cas_lifecycle.proofs.changes.install.Goals as goal

below : (m p : ℕ) → m < 96 → 96 ≤ p → m ≢ p
below m p low high same = omega arith

pub accept_five-requires-clause-ready : goal.accept_five-requires-clause-ready
accept_five-requires-clause-ready g c =
    let changes = c.args.changes.now in
    let room = c.args.room.now in
    let book = c.args.book.now in
    let files = c.args.files.now in
    let front = c.args.front.now in
    let small = changes.owns.0 in
    let high = files.owns.0 in
    let own = subst (λ s. Owns room.pass (room_changes s)) c.requires.shard.0 room.owns.1 in
    let own_front = subst (λ s. Owns front.pass (front_list s)) c.requires.shard.1 front.owns.1 in
    let given =
    subst (λ s. c.args.change.frontier ≤ last_number (listed (front_list s) front.pass.saw)) c.requires.shard.1 (subst (λ (n : ℕ). c.args.change.frontier ≤ n) front.last c.requires.frontier.1) in
    let differ = c.requires.added.0 in
    let first =
    inl (changes.owns.1, (small, high, differ, (λ same. absurd (below (changes_list changes.shard) files.list (omega arith) high same)), (λ same. (c.requires.frontier.0, c.requires.removed)), (λ (same : changes_list changes.shard ≡ front_list changes.shard). absurd (omega arith)))) in
    let second =
    inr (inl (own, (small, high, differ, (λ same. absurd (below (room_changes changes.shard) files.list (omega arith) high same)), (λ (same : room_changes changes.shard ≡ changes_list changes.shard). absurd (omega arith)), (λ (same : room_changes changes.shard ≡ front_list changes.shard). absurd (omega arith))))) in
    let third =
    inr (inr (inl (book.booked.owns changes.shard small, (small, high, differ, (λ same. absurd (below (book_changes changes.shard) files.list (omega arith) high same)), (λ (same : book_changes changes.shard ≡ changes_list changes.shard). absurd (omega arith)), (λ (same : book_changes changes.shard ≡ front_list changes.shard). absurd (omega arith)))))) in
    let fourth =
    inr (inr (inr (inl (files.owns.1, (small, high, differ, (λ same. c.requires.added.1), (λ same. absurd (below (changes_list changes.shard) files.list (omega arith) high (sym same))), (λ same. absurd (below (front_list changes.shard) files.list (omega arith) high (sym same)))))))) in
    let fifth =
    inr (inr (inr (inr (inl (own_front, (small, high, differ, (λ same. absurd (below (front_list changes.shard) files.list (omega arith) high same)), (λ (same : front_list changes.shard ≡ changes_list changes.shard). absurd (omega arith)), (λ same. given))))))) in
    ((first, (second, (third, (fourth, (fifth, tt))))), tt)

pub invariant_of-changes : goal.invariant_of-changes
invariant_of-changes g c =
    let changes = c.args.changes.now in
    record { owns = (changes.owns.0, subst (λ h. Owns h (changes_list changes.shard)) (sym c.accept_five.ensures.one) changes.owns.1) }

pub invariant_of-room : goal.invariant_of-room
invariant_of-room g c =
    let room = c.args.room.now in
    record { owns = (room.owns.0, subst (λ h. Owns h (room_changes room.shard)) (sym c.accept_five.ensures.two) room.owns.1) }

pub invariant_of-files : goal.invariant_of-files
invariant_of-files g c =
    let files = c.args.files.now in
    record { owns = (files.owns.0, subst (λ h. Owns h files.list) (sym c.accept_five.ensures.four) files.owns.1); odd = files.odd }

pub returns-clause-changes : goal.returns-clause-changes
returns-clause-changes g c =
    let changes = c.args.changes.now in
    let hands = changes.pass ∷ c.args.room.now.pass ∷ c.args.book.now.pass ∷ c.args.files.now.pass ∷ c.args.front.now.pass ∷ [] in
    (refl, gets items hands _ _ _ changes.pass (changes_list changes.shard) c.accept_five.ensures.entered (inl refl) changes.owns.1 (inl refl))

pub returns-clause-files : goal.returns-clause-files
returns-clause-files g c =
    let files = c.args.files.now in
    let hands = c.args.changes.now.pass ∷ c.args.room.now.pass ∷ c.args.book.now.pass ∷ files.pass ∷ c.args.front.now.pass ∷ [] in
    let came = c.accept_five.ensures in (
      refl,
      ap (λ h. listed files.list h.saw) came.four
          ∙ gets items hands _ _ _ files.pass files.list came.entered (inr (inr (inr (inl refl)))) files.owns.1 (inr (inr (inr (inl refl)))),
    )

pub returns-clause-seen : goal.returns-clause-seen
returns-clause-seen g c =
    let front = c.args.front.now in
    let files = c.args.files.now in
    let hands = c.args.changes.now.pass ∷ c.args.room.now.pass ∷ c.args.book.now.pass ∷ files.pass ∷ front.pass ∷ [] in
    let came = c.accept_five.ensures in (
      ap (λ h. h.saw) came.two,
      ap (λ h. h.saw) came.three,
      ap (λ h. h.saw) came.four,
      ap (λ h. h.saw) came.five,
      begins items hands _ _ _ c.args.changes.now.pass came.entered (inl refl),
      begins items hands _ _ _ files.pass came.entered (inr (inr (inr (inl refl)))),
      begins items hands _ _ _ front.pass came.entered (inr (inr (inr (inr (inl refl))))),
    )

pub invariant_of-front : goal.invariant_of-front
invariant_of-front g c =
    let front = c.args.front.now in
    let r = front_list front.shard in
    let hands = c.args.changes.now.pass ∷ c.args.room.now.pass ∷ c.args.book.now.pass ∷ c.args.files.now.pass ∷ front.pass ∷ [] in
    let came = c.accept_five.ensures in
    let list = gets items hands _ _ _ front.pass r came.entered (inr (inr (inr (inr (inl refl))))) front.owns.1 (inr (inr (inr (inr (inl (ap front_list (sym c.requires.shard.1))))))) in
    record {
      owns = (front.owns.0, subst (λ h. Owns h r) (sym came.five) front.owns.1);
      last = front.last ∙ sym (ap (λ h. last_number (listed r h.saw)) came.five ∙ (ap last_number list ∙ fold-append number_after 0 (listed r front.pass.saw) (_ ∷ [])));
    }

pub invariant_of-book : goal.invariant_of-book
invariant_of-book g c =
    let book = c.args.book.now in
    let hands = c.args.changes.now.pass ∷ c.args.room.now.pass ∷ book.pass ∷ c.args.files.now.pass ∷ c.args.front.now.pass ∷ [] in
    let came = c.accept_five.ensures in
    record {
      booked = subst (Booked book.refs) (sym came.three)
          (booked_gets book.refs hands _ _ _ book.pass book.booked came.entered (inr (inr (inl refl))) (λ k has. each_at (λ j. is_live (at book.refs j) ≡ true) _ k c.requires.live has));
    }

pub returns-clause-room : goal.returns-clause-room
returns-clause-room g c =
    let changes = c.args.changes.now in
    let room = c.args.room.now in
    let r = room_changes changes.shard in
    let hands = changes.pass ∷ room.pass ∷ c.args.book.now.pass ∷ c.args.files.now.pass ∷ c.args.front.now.pass ∷ [] in
    let came = c.accept_five.ensures in (
      c.requires.shard.0,
      ap (λ h. listed r h.saw) came.two
          ∙ gets items hands _ _ _ room.pass r came.entered (inr (inl refl)) (subst (λ s. Owns room.pass (room_changes s)) c.requires.shard.0 room.owns.1) (inr (inl refl)),
    )

pub returns-clause-book : goal.returns-clause-book
returns-clause-book g c =
    let changes = c.args.changes.now in
    let book = c.args.book.now in
    let r = book_changes changes.shard in
    let hands = changes.pass ∷ c.args.room.now.pass ∷ book.pass ∷ c.args.files.now.pass ∷ c.args.front.now.pass ∷ [] in
    let came = c.accept_five.ensures in (
      refl,
      ap (λ h. listed r h.saw) came.three
          ∙ gets items hands _ _ _ book.pass r came.entered (inr (inr (inl refl))) (book.booked.owns changes.shard changes.owns.0) (inr (inr (inl refl))),
    )

pub returns-clause-front : goal.returns-clause-front
returns-clause-front g c =
    let front = c.args.front.now in
    let r = front_list c.args.changes.now.shard in
    let hands = c.args.changes.now.pass ∷ c.args.room.now.pass ∷ c.args.book.now.pass ∷ c.args.files.now.pass ∷ front.pass ∷ [] in
    let came = c.accept_five.ensures in
    let own = subst (λ s. Owns front.pass (front_list s)) c.requires.shard.1 front.owns.1 in (
      refl,
      c.requires.shard.1,
      ap (λ h. listed r h.saw) came.five ∙ gets items hands _ _ _ front.pass r came.entered (inr (inr (inr (inr (inl refl))))) own (inr (inr (inr (inr (inl refl))))),
    )

pub returns-clause-gone : goal.returns-clause-gone
returns-clause-gone g c k removed has =
    let changes = c.args.changes.now in
    let r = changes_list changes.shard in
    let hands = changes.pass ∷ c.args.room.now.pass ∷ c.args.book.now.pass ∷ c.args.files.now.pass ∷ c.args.front.now.pass ∷ [] in
    let came = c.accept_five.ensures in
    let list = gets items hands _ _ _ changes.pass r came.entered (inl refl) changes.owns.1 (inl refl) in
    let was = each_at (λ j. Has (files_of (listed r changes.pass.saw)) j) _ k c.requires.removed removed in
    removed_gone changes.shard _ _ _ _ _ _ (listed r changes.pass.saw) k
    (subst (λ l. Distinct (all_added l)) list (listed_once r _ came.legal))
    was removed (subst (λ l. Has (files_of l) k) list has)

pub returns-clause-retires : goal.returns-clause-retires
returns-clause-retires g c s k low removed has =
    let changes = c.args.changes.now in
    let r = changes_list changes.shard in
    let hands = changes.pass ∷ c.args.room.now.pass ∷ c.args.book.now.pass ∷ c.args.files.now.pass ∷ c.args.front.now.pass ∷ [] in
    let came = c.accept_five.ensures in
    let log = c.accept_five.new.one.saw in
    let list = gets items hands _ _ _ changes.pass r came.entered (inl refl) changes.owns.1 (inl refl) in
    let was = each_at (λ j. Has (files_of (listed r changes.pass.saw)) j) _ k c.requires.removed removed in
    let there = subst (λ h. Has (files_of (listed (book_changes s) h.saw)) k) came.three has in
    let here = subst (λ l. Has (files_of l) k) (sym (book_copies s low log came.legal)) there in
    ⊎_elim
    (λ same.
    removed_gone changes.shard _ _ _ _ _ _ (listed r changes.pass.saw) k
    (subst (λ l. Distinct (all_added l)) list (listed_once r _ came.legal))
    was removed (subst (λ l. Has (files_of l) k) list (subst (λ (z : ℕ). Has (files_of (listed (changes_list z) log)) k) same here)))
    (λ not.
    shards_apart s changes.shard low changes.owns.0 not log came.legal k (was_listed (listed (changes_list s) log) k here)
    (subst (λ l. Has (all_added l) k) (sym list) (was_before (listed r changes.pass.saw) _ k was)))
    (same_or s changes.shard)
