-- A mutation that is noted in the last segment.
use Rattle.std.proofs.Common.{refl, ◌≡◌, ◌==◌, max, ◌<◌, ◌∙◌, ◌-◌, ℕ, arith, ap, sym, subst}
use Rattle.std.specs.Prelude.{if◌then◌else◌}
use Rattle.cas_journal.specs.Notes.{HasRoom, IsNoted}
use Rattle.cas_journal.specs.declared.notes.Note.{Note}
use Rattle.cas_replay.specs.Tops.{place_in, top_at}
use Rattle.cas_journal.proofs.Noting.{room_of_last, last_changed, one_more_noted, same_numbers}
use Rattle.cas_journal.proofs.notes.Notes.note.Goals as goal

pub note-requires : goal.note-requires
note-requires c =
    let list = c.args.self.now.list in
    let some : 0 < list.len = c.in-Some.ensures.variant.0 refl in
    let place = place_in c.args.self.now.shards c.args.mutation.now in
    let note = c.in-Some.note.now in
    let room = room_of_last list.items (list.len - 1) note place (omega (arith, list.ok.0, some)) c.requires in
    let here : HasRoom note.tops place = subst (λ (n : Note). HasRoom n.tops place) (sym c.in-Some.ensures.value) room in
    subst (λ (p : ℕ). HasRoom note.tops p) (sym c.place_in-place.ensures) here

pub returns-in-Some-clause-know : goal.returns-in-Some-clause-know
returns-in-Some-clause-know c found ns parts ms know =
    let self = c.args.self.now in
    let list = self.list in
    let some : 0 < list.len = c.in-Some.ensures.variant.0 refl in
    let note = c.in-Some.note.now in
    let m = c.args.mutation.now in
    let now : Note = record { segment = note.segment; tops = c.note.new.self } in
    let raised : (at : ℕ) → top_at c.note.new.self at ≡ (if at == place_in self.shards m then max (top_at note.tops at) m.number else top_at note.tops at) =
    subst (λ (p : ℕ). (at : ℕ) → top_at c.note.new.self at ≡ (if at == p then max (top_at note.tops at) m.number else top_at note.tops at)) c.place_in-place.ensures c.note.ensures.tops in
    record {
      numbers = same_numbers list.items (list.len - 1) note now (ap (λ (n : Note). n.segment) c.in-Some.ensures.value) ∙ know.numbers;
      noted = last_changed self.shards found list.items (list.len - 1) note now parts ms _ (omega (arith, list.ok.0, some))
          (λ noted. one_more_noted self.shards found note now refl m raised ms (subst (λ (n : Note). IsNoted self.shards found n ms) (sym c.in-Some.ensures.value) noted)) know.noted;
      next = know.next;
    }
