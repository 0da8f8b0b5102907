use Rattle.std.proofs.Common.{ℕ, ◌+◌, ◌≤◌, ◌<◌, ◌++◌, List, Option, Some, Result, Ok, length, sym, subst}
use Rattle.std.proofs.lemmas.Result.{err_from_is_err_and}
use Rattle.std.specs.Option.{option_to_list}
use Rattle.cas_streams.specs.Sources.{TakesFirst}
use Rattle.cas_streams.specs.declared.fragment.Fragment.{Fragment}
use Rattle.cas_blocks.specs.Inner.Pieces.{left_of, room_of}
use Rattle.cas_blocks.specs.Inner.Windows.{window, window_room, slice_room, GoesOn}
use Rattle.cas_blocks.specs.declared.fault.TableFault.{TableFault}
use Rattle.cas_blocks.proofs.WindowLaws.{over, still_told, inside_gives, closes, fewer, none_left}
use Rattle.cas_blocks.proofs.window.Window.next.Goals as goal

pub returns-in-Some-clause-first : goal.returns-in-Some-clause-first
returns-in-Some-clause-first g c = λ fs told.
    let e = rw c.in-Some.is at (c.in_ok-marker.ensures.told fs told) in (e.rest, e.same, e.left_is)

pub returns-in-Over-clause-first : goal.returns-in-Over-clause-first
returns-in-Over-clause-first g c = λ fs told.
    let w = c.enter.new.self in
    over c.args.file.now.order.now w.slice w.phase w.force w.ahead _ fs c.in-Over.is (rw c.in_default.is at (c.in_ok-marker.ensures.told fs told))

pub returns-in_err-fragment-clause-sound : goal.returns-in_err-fragment-clause-sound
returns-in_err-fragment-clause-sound g c = λ fs told.
    let w = c.enter.new.self in
    let t = still_told c.args.file.now.order.now w.slice w.phase w.force w.ahead _ fs c.in_ok-marker.ensures.entered c.in_default-phase.not-Over
    (rw c.in_default.is at (c.in_ok-marker.ensures.told fs told)) in
    let r = c.from_residual-in_err-fragment in
    let p = err_from_is_err_and r.result r.ensures.1 in
    rw (p.1, p.2) (c.in_err-fragment.ensures.sound t.0 t.1)

pub returns-in-Some-2-clause-first : goal.returns-in-Some-2-clause-first
returns-in-Some-2-clause-first g c = λ fs told.
    let file = c.args.file.now in
    let w = c.enter.new.self in
    let now = c.next_inside.new.force in
    let left : Option (List Fragment) = left_of file.order.now file.columns.now file.end (g.F.Sealed.contents file.sealed.now) c.next_inside.new.pieces in
    let r : Result (Option Fragment) TableFault = Ok (Some c.in-Some-2.fragment) in
    let given = inside_gives file.order.now w.slice w.phase w.force now w.ahead _ left fs c.in-Some-2.fragment c.in_ok-marker.ensures.entered c.in_default-phase.not-Over
    (rw c.in_default.is at (c.in_ok-marker.ensures.told fs told))
    (λ hs is.
    subst (λ (r : Option Fragment). GoesOn file.order.now w.slice w.force now (option_to_list w.ahead ++ hs) r left) c.in-Some-2.is
    (subst (λ (a : Option Fragment). GoesOn file.order.now w.slice w.force now (option_to_list a ++ hs) c.in_ok-fragment.field-0 left) c.take-ahead.ensures.value
    (c.in_ok-fragment.ensures.told hs is))) in
    subst (λ (a : Option Fragment). TakesFirst fs (window file.order.now w.slice w.phase now a left) r) (sym c.take-ahead.ensures.after) given

pub returns-in_ok-closing-in-None-clause-first : goal.returns-in_ok-closing-in-None-clause-first
returns-in_ok-closing-in-None-clause-first g c = λ fs told.
    let file = c.args.file.now in
    let w = c.enter.new.self in
    let now = c.next_inside.new.force in
    let left : Option (List Fragment) = left_of file.order.now file.columns.now file.end (g.F.Sealed.contents file.sealed.now) c.next_inside.new.pieces in
    closes file.order.now w.slice w.phase w.force now w.ahead _ left fs c.in_ok-closing-in-None.field-0 c.in_ok-marker.ensures.entered c.in_default-phase.not-Over
    (rw c.in_default.is at (c.in_ok-marker.ensures.told fs told))
    (λ hs is.
    subst (λ (r : Option Fragment). GoesOn file.order.now w.slice w.force now (option_to_list w.ahead ++ hs) r left) c.in-None.is
    (subst (λ (a : Option Fragment). GoesOn file.order.now w.slice w.force now (option_to_list a ++ hs) c.in_ok-fragment.field-0 left) c.take-ahead.ensures.value
    (c.in_ok-fragment.ensures.told hs is)))
    c.in_ok-closing-in-None.ensures

pub returns-in-Some-2-clause-ends : goal.returns-in-Some-2-clause-ends
returns-in-Some-2-clause-ends g c =
    let end = c.args.file.now.end in
    let w = c.enter.new.self in
    let after : ℕ = room_of end c.next_inside.new.pieces in
    let low = rw c.in_default.is at c.in_ok-marker.ensures.room in
    let step = rw c.in-Some-2.is at c.in_ok-fragment.ensures.room in
    subst (λ (a : Option Fragment). window_room w.phase a after < slice_room end c.args.self.now) (sym c.take-ahead.ensures.after)
    (fewer w.phase w.ahead (room_of end w.pieces) after (slice_room end c.args.self.now) c.in_ok-marker.ensures.entered c.in_default-phase.not-Over low
    (subst (λ (a : Option Fragment). 1 + after ≤ length (option_to_list a) + room_of end w.pieces) c.take-ahead.ensures.value step))

pub returns-in_ok-closing-in-None-clause-ends : goal.returns-in_ok-closing-in-None-clause-ends
returns-in_ok-closing-in-None-clause-ends g c =
    let w = c.enter.new.self in
    let low = rw c.in_default.is at c.in_ok-marker.ensures.room in
    none_left w.phase w.ahead (room_of c.args.file.now.end w.pieces) _ c.in_ok-closing-in-None.field-0 c.in_ok-marker.ensures.entered c.in_default-phase.not-Over low
