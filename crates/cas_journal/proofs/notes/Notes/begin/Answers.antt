-- The next segment, behind the others.
use Rattle.std.proofs.Common.{◌≡◌, ◌∙◌, ◌++◌, ◌∷◌, [], ℕ, List, map, ap, sym, subst}
use Rattle.std.proofs.lemmas.List.{map-append}
use Rattle.cas_journal.specs.Notes.{EachNoted, HasRoom, HasRoomIn}
use Rattle.cas_journal.specs.declared.notes.Note.{Note}
use Rattle.cas_replay.specs.declared.tops.Tops.{Tops}
use Rattle.cas_replay.specs.Tops.{place_in, top_at}
use Rattle.cas_journal.proofs.Noting.{each_more, new_room}
use Rattle.cas_journal.proofs.notes.Notes.begin.Goals as goal

pub returns-clause-know : goal.returns-clause-know
returns-clause-know c found ns parts know =
    let self = c.args.self.now in
    let note : Note = record { segment = c.args.segment; tops = c.replace-tops.result } in
    record {
      numbers = ap (map (λ (n : Note). n.segment)) c.push_reserved.ensures.items ∙ map-append (λ (n : Note). n.segment) self.list.items (note ∷ [])
          ∙ ap (λ (l : List ℕ). l ++ c.args.segment ∷ []) know.numbers;
      noted = subst (λ (l : List Note). EachNoted self.shards found l (parts ++ [] ∷ [])) (sym c.push_reserved.ensures.items)
          (each_more self.shards found self.list.items note parts (subst (λ (t : Tops). (place : ℕ) → top_at t place ≡ 0) (sym c.replace-tops.ensures.value) know.next) know.noted);
      next = subst (λ (t : Tops). (place : ℕ) → top_at t place ≡ 0) (sym c.replace-tops.ensures.after) c.none.ensures;
    }

pub returns-clause-place : goal.returns-clause-place
returns-clause-place c m has =
    let self = c.args.self.now in
    let note : Note = record { segment = c.args.segment; tops = c.replace-tops.result } in
    subst (λ (l : List Note). HasRoomIn l (place_in self.shards m)) (sym c.push_reserved.ensures.items)
    (new_room self.list.items note (place_in self.shards m) (subst (λ (t : Tops). HasRoom t (place_in self.shards m)) (sym c.replace-tops.ensures.value) has.1))
