use Rattle.std.proofs.Common.{◌≡◌, ◌++◌, take}
use Rattle.std.specs.List.{flat_map}
use Rattle.cas_render.specs.Text.{listed_text}
use Rattle.cas_render.proofs.printing.append_status.Given as goal

abbrev pub invariant-loop-listed : goal.invariant-loop-listed
invariant-loop-listed l = l.out.items ≡ l.initial.out.items ++ flat_map listed_text (take l.listed-index l.tables)
