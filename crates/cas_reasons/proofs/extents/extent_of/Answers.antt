use Rattle.std.proofs.Common.{sym, ap, ◌∙◌}
use Rattle.std.specs.List.{list_all}
use Rattle.cas_terms.specs.Columns.{names_static}
use Rattle.cas_reasons.specs.Extents.{static_or_row, extent_of}
use Rattle.cas_reasons.proofs.extents.extent_of.Goals as goal

pub returns-in-Update : goal.returns-in-Update
unfolding extent_of
returns-in-Update c =
    c.static_or_row-in-Update.ensures
    ∙ ap static_or_row (c.assigns_static.ensures ∙ ap (λ xs. list_all (λ a. names_static c.args.columns.now a.column) xs) c.as_slice-in-Update.ensures)
    ∙ ap (extent_of c.args.columns.now) (sym c.in-Update.is)
