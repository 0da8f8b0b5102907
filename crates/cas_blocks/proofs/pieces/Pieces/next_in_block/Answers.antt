use Rattle.std.proofs.Common.{◌≡◌, ℕ, List, Option, Some, Result, Ok, Err, sym, ap, subst, ◌∙◌}
use Rattle.cas_streams.specs.Sources.{TakesFirst}
use Rattle.cas_streams.specs.declared.fragment.Fragment.{Fragment}
use Rattle.cas_blocks.specs.Inner.Pieces.{pieces_left, IfBad, IsBadBlock, FindsNoMore}
use Rattle.cas_blocks.specs.declared.fault.TableFault.{TableFault}
use Rattle.cas_blocks.specs.declared.steps.Onward.{Onward}
use Rattle.cas_blocks.proofs.Breaks.{before_block}
use Rattle.cas_blocks.proofs.PiecesLeft.{told_there, piece_end, piece_block, piece_bad, piece_sound, taken}
use Rattle.cas_blocks.proofs.pieces.Pieces.next_in_block.Goals as goal

pub returns-in-Ok-None-clause-first : goal.returns-in-Ok-None-clause-first
returns-in-Ok-None-clause-first g c = λ fs told.
    let answers = rw c.in-Ok-None.field-0-is at c.in-Ok-None.ensures.told in
    let on = told_there c.args.file.now.order.now c.args.file.now.columns.now c.args.file.now.end (g.F.Sealed.contents c.args.file.now.sealed.now)
    c.args.self.now.onward c.in-Some.at c.args.self.now.rest fs c.in-Some.is c.requires.behind told in (
      piece_end c.args.file.now.order.now c.args.file.now.columns.now c.args.file.now.number c.args.file.now.end
          (g.F.Sealed.contents c.args.file.now.sealed.now) c.in-Some.at fs on answers,
      ap (λ (o : Option Onward). pieces_left c.args.file.now.order.now c.args.file.now.columns.now c.args.file.now.end
          (g.F.Sealed.contents c.args.file.now.sealed.now) o c.args.self.now.rest) c.replace.ensures.after
          ∙ ap (λ (xs : List Fragment). Some xs) c.requires.behind,
    )

pub returns-in_ok-next-in-Ok-Some-clause-first : goal.returns-in_ok-next-in-Ok-Some-clause-first
returns-in_ok-next-in-Ok-Some-clause-first g c = λ fs told.
    let answers = rw c.in-Ok-Some.field-0-is at c.in-Ok-Some.ensures.told in
    let shorter = rw c.in-Ok-Some.field-0-is at c.in-Ok-Some.ensures.shorter in
    let on = told_there c.args.file.now.order.now c.args.file.now.columns.now c.args.file.now.end (g.F.Sealed.contents c.args.file.now.sealed.now)
    c.args.self.now.onward c.in-Some.at c.args.self.now.rest fs c.in-Some.is c.requires.behind told in
    let there = piece_block c.args.file.now.order.now c.args.file.now.columns.now c.args.file.now.number c.args.file.now.end
    (g.F.Sealed.contents c.args.file.now.sealed.now) c.in-Some.at fs c.in-Ok-Some.step on answers in
    let given : Result (Option Fragment) TableFault = Ok c.in_ok-next-in-Ok-Some.field-0 in
    subst (λ (o : Option Onward). TakesFirst fs (pieces_left c.args.file.now.order.now c.args.file.now.columns.now c.args.file.now.end
    (g.F.Sealed.contents c.args.file.now.sealed.now) o c.next.new.self) given) (sym c.replace-in-Ok-Some.ensures.after)
    (taken c.args.file.now.order.now c.args.file.now.columns.now c.args.file.now.number c.args.file.now.end
    (g.F.Sealed.contents c.args.file.now.sealed.now) c.in-Ok-Some.step.onward fs c.in-Ok-Some.step.fragments c.next.new.self
    c.in_ok-next-in-Ok-Some.field-0 there (c.in_ok-next-in-Ok-Some.ensures.split ∙ c.replace-in-Ok-Some-2.ensures.after) shorter.some)

pub returns-in-Err-clause-bad : goal.returns-in-Err-clause-bad
returns-in-Err-clause-bad g c =
    let is : c.args.self.now.onward ≡ Some c.in-Some.at = c.in-Some.is in
    let fault : Result (Option Fragment) TableFault = Err c.in-Err.fault in
    subst (λ (o : Option Onward). IfBad (IsBadBlock c.args.file.now.order.now c.args.file.now.columns.now c.args.file.now.number
    c.args.file.now.end (g.F.Sealed.contents c.args.file.now.sealed.now) o) fault) (sym is)
    (piece_bad c.args.file.now.order.now c.args.file.now.columns.now c.args.file.now.number c.args.file.now.end
    (g.F.Sealed.contents c.args.file.now.sealed.now) c.in-Some.at c.in-Err.fault c.in-Err.ensures.told)

pub returns-in-Err-clause-sound : goal.returns-in-Err-clause-sound
returns-in-Err-clause-sound g c = λ fs told.
    let on = told_there c.args.file.now.order.now c.args.file.now.columns.now c.args.file.now.end (g.F.Sealed.contents c.args.file.now.sealed.now)
    c.args.self.now.onward c.in-Some.at c.args.self.now.rest fs c.in-Some.is c.requires.behind told in
    piece_sound c.args.file.now.order.now c.args.file.now.columns.now c.args.file.now.number c.args.file.now.end
    (g.F.Sealed.contents c.args.file.now.sealed.now) c.in-Some.at c.in-Err.fault fs on c.in-Err.ensures.told

pub returns-in_ok-next-in-Ok-Some-clause-narrows : goal.returns-in_ok-next-in-Ok-Some-clause-narrows
returns-in_ok-next-in-Ok-Some-clause-narrows g c =
    let file = c.args.file.now in
    let contents : Option (List ℕ) = g.F.Sealed.contents file.sealed.now in
    let is : c.args.self.now.onward ≡ Some c.in-Some.at = c.in-Some.is in
    let answers = rw c.in-Ok-Some.field-0-is at c.in-Ok-Some.ensures.told in
    subst (λ (o : Option Onward). FindsNoMore file.order.now file.columns.now file.number file.end contents c.args.self.now.onward o)
    (sym c.replace-in-Ok-Some.ensures.after)
    (subst (λ (o : Option Onward). FindsNoMore file.order.now file.columns.now file.number file.end contents o (Some c.in-Ok-Some.step.onward)) (sym is)
    (before_block file.order.now file.columns.now file.number file.end contents c.in-Some.at c.in-Ok-Some.step answers))

pub returns-in_err-next-in-Ok-Some-clause-narrows : goal.returns-in_err-next-in-Ok-Some-clause-narrows
returns-in_err-next-in-Ok-Some-clause-narrows g c =
    let file = c.args.file.now in
    let contents : Option (List ℕ) = g.F.Sealed.contents file.sealed.now in
    let is : c.args.self.now.onward ≡ Some c.in-Some.at = c.in-Some.is in
    let answers = rw c.in-Ok-Some.field-0-is at c.in-Ok-Some.ensures.told in
    subst (λ (o : Option Onward). FindsNoMore file.order.now file.columns.now file.number file.end contents c.args.self.now.onward o)
    (sym c.replace-in-Ok-Some.ensures.after)
    (subst (λ (o : Option Onward). FindsNoMore file.order.now file.columns.now file.number file.end contents o (Some c.in-Ok-Some.step.onward)) (sym is)
    (before_block file.order.now file.columns.now file.number file.end contents c.in-Some.at c.in-Ok-Some.step answers))
