use Rattle.std.proofs.Common.{◌≡◌, ◌<◌, List, [], ◌∷◌, Some, arith, ◌∙◌}
use Rattle.cas_streams.specs.declared.fragment.Fragment.{Fragment}
use Rattle.cas_live.proofs.Passing.{Passed, one_more, one_shown, none_left}
use Rattle.cas_live.proofs.live_rows.next_shown.Goals as goal

pub returns-in-Some-2-clause-first : goal.returns-in-Some-2-clause-first
returns-in-Some-2-clause-first g c fs e =
    let tells = g.I.FragmentSource.to_come in
    let p : Passed c.args.viewer.now fs c.loop-fragment.viewer (tells c.loop-fragment.source) = c.loop-fragment.invariant.4 fs e in
    let next : (rest : List Fragment) × (p.rest ≡ c.in-Some.fragment ∷ rest) × (tells c.next.new.self ≡ Some rest) = rw c.in-Some.is at (c.in_ok-fragment.ensures.first p.rest p.left) in
    one_shown c.args.viewer.now fs c.loop-fragment.viewer (tells c.loop-fragment.source) p c.in-Some.fragment c.take.new.self (tells c.next.new.self) next.0 next.1 next.2 c.in-Some-2.row
    (record { query = c.take.ensures.query; moment = c.take.ensures.moment; rows = rw c.in-Some-2.is at c.in_ok-row.ensures.rows; shared = c.in_ok-row.ensures.shared })

pub loop-fragment-preserved : goal.loop-fragment-preserved
loop-fragment-preserved g c =
    let tells = g.I.FragmentSource.to_come in
    let fewer : g.I.FragmentSource.at_most c.next.new.self < g.I.FragmentSource.at_most c.loop-fragment.source = rw c.in-Some.is at c.in_ok-fragment.ensures.ends in (
      c.take.ensures.query ∙ c.loop-fragment.invariant.0,
      c.take.ensures.moment ∙ c.loop-fragment.invariant.1,
      c.next.ensures.same_top ∙ c.loop-fragment.invariant.2,
      omega (arith, fewer, c.loop-fragment.invariant.3),
      λ fs e.
          let p : Passed c.args.viewer.now fs c.loop-fragment.viewer (tells c.loop-fragment.source) = c.loop-fragment.invariant.4 fs e in
          let next : (rest : List Fragment) × (p.rest ≡ c.in-Some.fragment ∷ rest) × (tells c.next.new.self ≡ Some rest) = rw c.in-Some.is at (c.in_ok-fragment.ensures.first p.rest p.left) in
          one_more c.args.viewer.now fs c.loop-fragment.viewer (tells c.loop-fragment.source) p c.in-Some.fragment c.take.new.self (tells c.next.new.self) next.0 next.1 next.2
          (record { query = c.take.ensures.query; moment = c.take.ensures.moment; rows = rw c.in_default-2.is at c.in_ok-row.ensures.rows; shared = c.in_ok-row.ensures.shared }),
    )

pub returns-clause-first : goal.returns-clause-first
returns-clause-first g c fs e =
    let tells = g.I.FragmentSource.to_come in
    let p : Passed c.args.viewer.now fs c.loop-fragment.viewer (tells c.loop-fragment.source) = c.loop-fragment.invariant.4 fs e in
    let next : (p.rest ≡ []) × (tells c.next.new.self ≡ Some []) = rw c.in_default.is at (c.in_ok-fragment.ensures.first p.rest p.left) in
    let none = none_left c.args.viewer.now fs c.loop-fragment.viewer (tells c.loop-fragment.source) p next.0 in
    (none.0, next.1, none.1)
