-- A mutation that is handed on, and noted.
use Rattle.std.proofs.Common.{rules, refl, sym, subst, ◌∙◌, ◌++◌, ◌∷◌, [], List}
use Rattle.std.specs.Prelude.{filter}
use Rattle.cas_replay.specs.Reading.{is_above}
use Rattle.cas_atoms.specs.declared.atom.Mutation.{Mutation}
use Rattle.cas_replay.proofs.Progress.{handed_more, passed_over}
use Rattle.cas_replay.proofs.reading.hand_on.Goals.{then-is_above+in_ok-take, else-is_above}
use Rattle.cas_replay.proofs.reading.hand_on.Goals as goal

pub returns-clause-handed : goal.returns-clause-handed
returns-clause-handed g c first before stands =
    let shards = c.args.of.now.shards in
    let frontiers = c.args.of.now.frontiers.now in
    let m = c.args.mutation in
    let taken = g.T.TakesMutations.has_taken in
    let given : List Mutation = first ++ filter (is_above shards frontiers) before in
    record {
      last = search rules;
      noted = c.put.ensures.notes shards before m (c.in_ok-reserve.ensures.notes shards before stands.noted) c.place_in-place.ensures refl;
      handed = elim c.if-is_above.branch [
        | then-is_above+in_ok-take w ↦
            handed_more shards frontiers (λ (ms : List Mutation). taken ms c.if-is_above.taker) first before m (sym c.is_above.ensures ∙ w.if-is_above.true)
            (subst (λ x. taken (given ++ m ∷ []) x) (sym w.taker-is) (w.in_ok-take.ensures.taken given stands.handed))
        | else-is_above w ↦
            passed_over shards frontiers (λ (ms : List Mutation). taken ms c.if-is_above.taker) first before m (sym c.is_above.ensures ∙ w.if-is_above.false)
            (subst (λ x. taken given x) (sym w.taker-is) stands.handed)
      ];
    }
