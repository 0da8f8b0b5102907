use Rattle.std.proofs.Common.{◌++◌, sym, ap, ◌∙◌, subst}
use Rattle.cas_partition.specs.Inner.Few.{StandsAt, FitsAt}
use Rattle.cas_partition.specs.Inner.Rows.{AreInOrder, joined_place}
use Rattle.cas_partition.proofs.FewPlaces.{is_joined, is_joined_behind, joined_order}
use Rattle.cas_partition.proofs.body.Body.join.Goals as goal

pub invariant_of-self : goal.invariant_of-self
invariant_of-self c =
    subst AreInOrder
    (sym (is_joined c.args.place c.args.content c.self.inside.few.items c.join_few.new.few.items c.self.inside.many.entries c.in-Ok.at (subst (λ l. StandsAt c.args.place l c.in-Ok.at) c.deref.ensures.value c.in-Ok.ensures) c.join_few.ensures))
    (joined_order c.args.place c.args.content (c.self.inside.few.items ++ c.self.inside.many.entries) c.self.invariant)

pub returns-in-Ok : goal.returns-in-Ok
returns-in-Ok c =
    is_joined c.args.place c.args.content c.self.inside.few.items c.join_few.new.few.items c.self.inside.many.entries c.in-Ok.at (subst (λ l. StandsAt c.args.place l c.in-Ok.at) c.deref.ensures.value c.in-Ok.ensures) c.join_few.ensures
    ∙ ap (joined_place c.args.place c.args.content) c.self.view_is

pub invariant_of-self-in-Err : goal.invariant_of-self-in-Err
invariant_of-self-in-Err c =
    subst AreInOrder
    (sym (is_joined_behind c.args.place c.args.content c.self.inside.few.items c.self.inside.many.entries c.join_at.new.places.entries c.in-Err.field-0 (subst (λ l. FitsAt c.args.place l c.in-Err.field-0) c.deref.ensures.value c.in-Err.ensures) c.self.invariant c.join_at.ensures))
    (joined_order c.args.place c.args.content (c.self.inside.few.items ++ c.self.inside.many.entries) c.self.invariant)

pub returns : goal.returns
returns c =
    is_joined_behind c.args.place c.args.content c.self.inside.few.items c.self.inside.many.entries c.join_at.new.places.entries c.in-Err.field-0 (subst (λ l. FitsAt c.args.place l c.in-Err.field-0) c.deref.ensures.value c.in-Err.ensures) c.self.invariant c.join_at.ensures
    ∙ ap (joined_place c.args.place c.args.content) c.self.view_is
