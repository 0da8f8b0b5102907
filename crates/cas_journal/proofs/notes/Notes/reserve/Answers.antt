-- Room in the last segment.
use Rattle.std.proofs.Common.{refl, ◌≡◌, ◌<◌, ◌∙◌, ◌-◌, ℕ, arith, ap, sym, subst}
use Rattle.std.specs.Prelude.{slice_set}
use Rattle.cas_journal.specs.Notes.{IsNoted, HasRoom, HasRoomIn}
use Rattle.cas_journal.specs.declared.notes.Note.{Note}
use Rattle.cas_replay.specs.Tops.{place_in}
use Rattle.cas_journal.proofs.Noting.{then_room, last_room, one_changed, still_noted, same_numbers}
use Rattle.cas_journal.proofs.notes.Notes.reserve.Goals as goal

pub returns-in-Some-clause-know : goal.returns-in-Some-clause-know
returns-in-Some-clause-know c found ns parts know =
    let self = c.args.self.now in
    let list = self.list in
    let some : 0 < list.len = c.in-Some.ensures.variant.0 refl in
    let note = c.in-Some.note.now in
    let now : Note = record { segment = note.segment; tops = c.reserve.new.self } in
    record {
      numbers = same_numbers list.items (list.len - 1) note now (ap (λ (n : Note). n.segment) c.in-Some.ensures.value) ∙ know.numbers;
      noted = one_changed self.shards found list.items (list.len - 1) note now parts (omega (arith, list.ok.0, some))
          (λ ms noted. still_noted self.shards found note now refl c.reserve.ensures.tops ms (subst (λ (n : Note). IsNoted self.shards found n ms) (sym c.in-Some.ensures.value) noted))
          know.noted;
      next = know.next;
    }

pub returns-in-Some-clause-place : goal.returns-in-Some-clause-place
returns-in-Some-clause-place c =
    let self = c.args.self.now in
    let list = self.list in
    let some : 0 < list.len = c.in-Some.ensures.variant.0 refl in
    let note = c.in-Some.note.now in
    let now : Note = record { segment = note.segment; tops = c.reserve.new.self } in
    let place = place_in self.shards c.args.mutation.now in
    then_room c.reserve.result (HasRoom c.reserve.new.self c.place_in-place.result) (HasRoomIn (slice_set list.items (list.len - 1) now) place) c.reserve.ensures.place
    (λ room. last_room list.items (list.len - 1) now place (omega (arith, list.ok.0, some))
    (subst (λ (p : ℕ). HasRoom c.reserve.new.self p) c.place_in-place.ensures room))
