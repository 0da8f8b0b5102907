use Rattle.std.proofs.Common.{◌≡◌, ◌++◌, [], sym, ap, ◌∙◌, subst}
use Rattle.cas_partition.specs.Inner.Few.{StandsAt, FitsAt}
use Rattle.cas_partition.specs.Inner.Rows.{AreInOrder, with_place}
use Rattle.cas_partition.proofs.FewPlaces.{is_made, is_put, made_order, moved_made, none_left}
use Rattle.cas_partition.proofs.Taking.{either_way, on_ok_too}
use Rattle.cas_partition.proofs.body.Body.reserve.Goals as goal

pub returns-in-Ok-clause-ok : goal.returns-in-Ok-clause-ok
returns-in-Ok-clause-ok c =
    sym c.self.view_is
    ∙ is_made c.args.place c.args.tag c.self.inside.few.items c.self.inside.many.entries c.in-Ok.field-0 (subst (λ l. StandsAt c.args.place l c.in-Ok.field-0) c.deref.ensures.value c.in-Ok.ensures)
    ∙ ap (with_place c.args.place c.args.tag) c.self.view_is

pub invariant_of-self : goal.invariant_of-self
invariant_of-self c =
    let none : c.self.inside.many.entries ≡ [] = none_left c.self.inside.many.entries (c.is_empty.ensures.0 c.if-is_empty.true) in
    either_way c.put_at.result _ _ _ c.put_at.ensures.ok c.put_at.ensures.err
    (λ e. subst AreInOrder
    (sym (is_put c.args.place c.args.tag c.self.inside.few.items c.put_at.new.few.items c.self.inside.many.entries c.in-Err.at (subst (λ l. FitsAt c.args.place l c.in-Err.at) c.deref.ensures.value c.in-Err.ensures) c.self.invariant none e))
    (made_order c.args.place c.args.tag (c.self.inside.few.items ++ c.self.inside.many.entries) c.self.invariant))
    (λ e. subst AreInOrder (ap (λ l. l ++ c.self.inside.many.entries) (sym e)) c.self.invariant)

pub returns-then-len-lt-FEW-clause-ok : goal.returns-then-len-lt-FEW-clause-ok
returns-then-len-lt-FEW-clause-ok c =
    let none : c.self.inside.many.entries ≡ [] = none_left c.self.inside.many.entries (c.is_empty.ensures.0 c.if-is_empty.true) in
    on_ok_too c.put_at.result _ _
    (λ e. is_put c.args.place c.args.tag c.self.inside.few.items c.put_at.new.few.items c.self.inside.many.entries c.in-Err.at (subst (λ l. FitsAt c.args.place l c.in-Err.at) c.deref.ensures.value c.in-Err.ensures) c.self.invariant none e
    ∙ ap (with_place c.args.place c.args.tag) c.self.view_is)
    c.put_at.ensures.ok

pub invariant_of-self-2 : goal.invariant_of-self-2
invariant_of-self-2 c =
    either_way c.reserve_at.result _ _ _ c.reserve_at.ensures.ok c.reserve_at.ensures.err
    (λ e. subst AreInOrder
    (sym (moved_made c.args.place c.args.tag c.move_few.new.few.items c.move_few.new.many.entries c.reserve_at.new.places.entries (c.self.inside.few.items ++ c.self.inside.many.entries) c.in_ok-move_few.ensures.moved c.move_few.ensures.same e))
    (made_order c.args.place c.args.tag (c.self.inside.few.items ++ c.self.inside.many.entries) c.self.invariant))
    (λ e. subst AreInOrder (sym (ap (λ l. c.move_few.new.few.items ++ l) e ∙ c.move_few.ensures.same)) c.self.invariant)
