use Rattle.std.proofs.Common.{◌≡◌, ℕ, ◌≤◌, ◌∙◌, [], ◌∷◌, true, ap, refl, sym, subst, inl, inr, arith}
use Rattle.std.proofs.lemmas.List.Sums.{fold-append}
use Rattle.cas_history.specs.Hands.{Owns}
use Rattle.cas_history.specs.Log.{Has, Each}
use Rattle.cas_history.proofs.LogLists.{each_at}
use Rattle.cas_history.proofs.Parts.{gets}
use Rattle.cas_refs.specs.Counts.{at}
use Rattle.cas_history.specs.Items.{items, listed, numbers_list, front_list, changes_list, room_changes, book_changes}
use Rattle.cas_history.specs.Last.{used, last_number, number_after}
use Rattle.cas_lifecycle.specs.Books.{is_live, Booked}
use Rattle.cas_lifecycle.proofs.Books.{booked_gets}
use Rattle.cas_lifecycle.proofs.changes.list_found.Goals as goal

pub accept_five-requires-clause-ready : goal.accept_five-requires-clause-ready
accept_five-requires-clause-ready g c =
    let numbers = c.args.numbers.now in
    let changes = c.args.changes.now in
    let room = c.args.room.now in
    let book = c.args.book.now in
    let front = c.args.front.now in
    let small = changes.owns.0 in
    let own = subst (λ s. Owns room.pass (room_changes s)) c.requires.shard.0 room.owns.1 in
    let own_front = subst (λ s. Owns front.pass (front_list s)) c.requires.shard.1 front.owns.1 in
    let given =
    subst (λ s. c.args.found.frontier ≤ last_number (listed (front_list s) front.pass.saw)) c.requires.shard.1 (subst (λ (n : ℕ). c.args.found.frontier ≤ n) front.last c.requires.frontier.1) in
    let differ = c.requires.files.0 in
    let new = subst (λ (n : ℕ). Each (λ k. (k ≤ n) × (Has (used (listed numbers_list numbers.pass.saw)) k → ⊥)) c.args.found.files.now) numbers.is_last c.requires.files.1 in
    let first =
    inl (numbers.owns, (small, differ, (λ same. new), (λ (same : numbers_list ≡ changes_list changes.shard). absurd (omega arith)), (λ (same : numbers_list ≡ front_list changes.shard). absurd (omega arith)))) in
    let second =
    inr (inl (changes.owns.1, (small, differ, (λ (same : changes_list changes.shard ≡ numbers_list). absurd (omega arith)), (λ same. c.requires.frontier.0), (λ (same : changes_list changes.shard ≡ front_list changes.shard). absurd (omega arith))))) in
    let third =
    inr (inr (inl (own, (small, differ, (λ (same : room_changes changes.shard ≡ numbers_list). absurd (omega arith)), (λ (same : room_changes changes.shard ≡ changes_list changes.shard). absurd (omega arith)), (λ (same : room_changes changes.shard ≡ front_list changes.shard). absurd (omega arith)))))) in
    let fourth =
    inr (inr (inr (inl (book.booked.owns changes.shard small, (small, differ, (λ (same : book_changes changes.shard ≡ numbers_list). absurd (omega arith)), (λ (same : book_changes changes.shard ≡ changes_list changes.shard). absurd (omega arith)), (λ (same : book_changes changes.shard ≡ front_list changes.shard). absurd (omega arith))))))) in
    let fifth =
    inr (inr (inr (inr (inl (own_front, (small, differ, (λ (same : front_list changes.shard ≡ numbers_list). absurd (omega arith)), (λ (same : front_list changes.shard ≡ changes_list changes.shard). absurd (omega arith)), (λ same. given))))))) in
    ((first, (second, (third, (fourth, (fifth, tt))))), tt)

pub invariant_of-changes : goal.invariant_of-changes
invariant_of-changes g c =
    let changes = c.args.changes.now in
    record { owns = (changes.owns.0, subst (λ h. Owns h (changes_list changes.shard)) (sym c.accept_five.ensures.two) changes.owns.1) }

pub invariant_of-room : goal.invariant_of-room
invariant_of-room g c =
    let room = c.args.room.now in
    record { owns = (room.owns.0, subst (λ h. Owns h (room_changes room.shard)) (sym c.accept_five.ensures.three) room.owns.1) }

pub invariant_of-front : goal.invariant_of-front
invariant_of-front g c =
    let front = c.args.front.now in
    let r = front_list front.shard in
    let hands = c.args.numbers.now.pass ∷ c.args.changes.now.pass ∷ c.args.room.now.pass ∷ c.args.book.now.pass ∷ front.pass ∷ [] in
    let came = c.accept_five.ensures in
    let list = gets items hands _ _ _ front.pass r came.entered (inr (inr (inr (inr (inl refl))))) front.owns.1 (inr (inr (inr (inr (inl (ap front_list (sym c.requires.shard.1))))))) in
    record {
      owns = (front.owns.0, subst (λ h. Owns h r) (sym came.five) front.owns.1);
      last = front.last ∙ sym (ap (λ h. last_number (listed r h.saw)) came.five ∙ (ap last_number list ∙ fold-append number_after 0 (listed r front.pass.saw) (_ ∷ [])));
    }

pub returns-clause-front : goal.returns-clause-front
returns-clause-front g c =
    let front = c.args.front.now in
    let r = front_list c.args.changes.now.shard in
    let hands = c.args.numbers.now.pass ∷ c.args.changes.now.pass ∷ c.args.room.now.pass ∷ c.args.book.now.pass ∷ front.pass ∷ [] in
    let came = c.accept_five.ensures in
    let own = subst (λ s. Owns front.pass (front_list s)) c.requires.shard.1 front.owns.1 in (
      refl,
      c.requires.shard.1,
      ap (λ h. listed r h.saw) came.five ∙ gets items hands _ _ _ front.pass r came.entered (inr (inr (inr (inr (inl refl))))) own (inr (inr (inr (inr (inl refl))))),
    )

pub invariant_of-book : goal.invariant_of-book
invariant_of-book g c =
    let book = c.args.book.now in
    let hands = c.args.numbers.now.pass ∷ c.args.changes.now.pass ∷ c.args.room.now.pass ∷ book.pass ∷ c.args.front.now.pass ∷ [] in
    let came = c.accept_five.ensures in
    record {
      booked = subst (Booked book.refs) (sym came.four)
          (booked_gets book.refs hands _ _ _ book.pass book.booked came.entered (inr (inr (inr (inl refl)))) (λ k has. each_at (λ j. is_live (at book.refs j) ≡ true) _ k c.requires.live has));
    }

pub returns-clause-changes : goal.returns-clause-changes
returns-clause-changes g c =
    let changes = c.args.changes.now in
    let r = changes_list changes.shard in
    let hands = c.args.numbers.now.pass ∷ changes.pass ∷ c.args.room.now.pass ∷ c.args.book.now.pass ∷ c.args.front.now.pass ∷ [] in
    let came = c.accept_five.ensures in
    (refl, ap (λ h. listed r h.saw) came.two ∙ gets items hands _ _ _ changes.pass r came.entered (inr (inl refl)) changes.owns.1 (inr (inl refl)))

pub returns-clause-room : goal.returns-clause-room
returns-clause-room g c =
    let changes = c.args.changes.now in
    let room = c.args.room.now in
    let r = room_changes changes.shard in
    let hands = c.args.numbers.now.pass ∷ changes.pass ∷ room.pass ∷ c.args.book.now.pass ∷ c.args.front.now.pass ∷ [] in
    let came = c.accept_five.ensures in (
      c.requires.shard.0,
      ap (λ h. listed r h.saw) came.three
          ∙ gets items hands _ _ _ room.pass r came.entered (inr (inr (inl refl))) (subst (λ s. Owns room.pass (room_changes s)) c.requires.shard.0 room.owns.1) (inr (inr (inl refl))),
    )

pub returns-clause-book : goal.returns-clause-book
returns-clause-book g c =
    let changes = c.args.changes.now in
    let book = c.args.book.now in
    let r = book_changes changes.shard in
    let hands = c.args.numbers.now.pass ∷ changes.pass ∷ c.args.room.now.pass ∷ book.pass ∷ c.args.front.now.pass ∷ [] in
    let came = c.accept_five.ensures in (
      refl,
      ap (λ h. listed r h.saw) came.four
          ∙ gets items hands _ _ _ book.pass r came.entered (inr (inr (inr (inl refl)))) (book.booked.owns changes.shard changes.owns.0) (inr (inr (inr (inl refl)))),
    )
