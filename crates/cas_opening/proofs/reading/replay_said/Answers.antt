use Rattle.std.proofs.Common.{◌≡◌, ℕ, List, [], ◌++◌, length, Result, Err, sym, subst, ◌∙◌}
use Rattle.cas_atoms.specs.declared.atom.Mutation.{Mutation}
use Rattle.cas_codec.specs.declared.fault.ReadFault.{ReadFault}
use Rattle.cas_replay.specs.Reading.{log_of, segment_in, above_in}
use Rattle.std.proofs.lemmas.List.{append-nil}
use Rattle.cas_replay.specs.Replays.{HandsOn, IsFront}
use Rattle.cas_replay.specs.declared.tops.Tops.{Tops}
use Rattle.cas_journal.specs.declared.notes.Notes.{Notes}
use Rattle.cas_opening.specs.declared.fault.OpenFault.{OpenFault}
use Rattle.cas_opening.specs.Inner.Counting.{frontiers_below}
use Rattle.cas_opening.specs.Inner.Reading.{above, ReplaysSaid}
use Rattle.cas_opening.proofs.Readings.{said_fault}
use Rattle.cas_opening.proofs.Noting.{replay_as, noted_in}
use Rattle.cas_opening.proofs.reading.replay_said.Goals as goal

pub returns-clause-exact : goal.returns-clause-exact
returns-clause-exact g c first has image read =
    let s = c.args.said.now in
    let below : c.deref.result.now ≡ frontiers_below s (length s.tables) = c.deref.ensures.value ∙ c.in-Ok.ensures in
    let same : above_in c.shards.result c.deref.result.now (log_of c.tables.result.now c.shards.result (segment_in image) c.segments.result.now []) ≡ above s image =
    λ i. above_in (c.shards.ensures i) (below i) (log_of (c.tables.ensures i) (c.shards.ensures i) (segment_in image) (c.segments.ensures i) []) in
    subst (λ (f : OpenFault). ReplaysSaid {T = Notes} (λ (given : List Mutation). g.T.TakesMutations.has_taken (first ++ given) c.replay_to.new.taker) s image (Err f)) (sym c.of_replay.ensures)
    (said_fault Tops Notes (λ (given : List Mutation). g.T.TakesMutations.has_taken (first ++ given) c.replay_to.new.taker) s image c.in-Err-replay_to.fault
    (subst (λ (r : Result (List Mutation) (ℕ × ReadFault)). HandsOn {X = Tops} (λ (given : List Mutation). g.T.TakesMutations.has_taken (first ++ given) c.replay_to.new.taker)
    (Err c.in-Err-replay_to.fault) r) same (c.in-Err-replay_to.ensures.exact first has image read)))

pub returns-in-Ok-replay_to-clause-exact : goal.returns-in-Ok-replay_to-clause-exact
returns-in-Ok-replay_to-clause-exact g c first has image read =
    let s = c.args.said.now in
    let below : c.deref.result.now ≡ frontiers_below s (length s.tables) = c.deref.ensures.value ∙ c.in-Ok.ensures in
    let same : above_in c.shards.result c.deref.result.now (log_of c.tables.result.now c.shards.result (segment_in image) c.segments.result.now []) ≡ above s image =
    λ i. above_in (c.shards.ensures i) (below i) (log_of (c.tables.ensures i) (c.shards.ensures i) (segment_in image) (c.segments.ensures i) []) in
    let (given, took, is) = c.in-Ok-replay_to.ensures.exact first has image read in
    (given, took, subst (λ (r : Result (List Mutation) (ℕ × ReadFault)). IsFront (λ ms. ms) given r) (sym is ∙ same) ([], sym (append-nil given)))

pub returns-in-Ok-of-clause-replayed : goal.returns-in-Ok-of-clause-replayed
returns-in-Ok-of-clause-replayed g c first has =
    let s = c.args.said.now in
    let tops = c.in-Ok-replay_to.tops in
    let below : c.deref.result.now ≡ frontiers_below s (length s.tables) = c.deref.ensures.value ∙ c.in-Ok.ensures in
    let (given, took, r, was) = c.in-Ok-replay_to.ensures.replayed first has in
    let (q, noted) = replay_as c.tables.result.now s.tables c.shards.result s.shards c.segments.result.now s.segments c.deref.result.now (frontiers_below s (length s.tables))
    c.tables.ensures c.shards.ensures c.segments.ensures below (g.F.Folder.disk c.args.folder.now) given tops (r, was) in (
      given,
      took,
      q,
      noted_in c.in-Ok-of.notes s c.shards-in-Ok-replay_to.result c.segments-in-Ok-replay_to.result.now tops q.all c.shards-in-Ok-replay_to.ensures c.segments-in-Ok-replay_to.ensures
          c.in-Ok-of.ensures.shards c.in-Ok-of.ensures.know noted,
    )
