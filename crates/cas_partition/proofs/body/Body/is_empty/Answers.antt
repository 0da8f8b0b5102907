use Rattle.std.proofs.Common.{sym, ap, ◌∙◌}
use Rattle.cas_partition.specs.Inner.Rows.{has_none}
use Rattle.cas_partition.proofs.FewPlaces.{some_there}
use Rattle.cas_partition.proofs.body.Body.is_empty.Goals as goal

pub returns-else-is_empty : goal.returns-else-is_empty
returns-else-is_empty c =
    c.if-is_empty.false
    ∙ sym (some_there c.self.inside.few.items c.self.inside.many.entries c.self.inside.few.len c.self.inside.few.ok.0 (sym c.is_empty.ensures ∙ c.if-is_empty.false))
    ∙ ap has_none c.self.view_is
