-- What the code borrows of a statement.
use Rattle.cql_parse.specs.declared.syntax.Assigned.TheVariants as assigned
use Rattle.cas_mentions.specs.Mentions.{Change, assigns, deletes}
use Rattle.cas_mentions.specs.declared.change.RowChange.{RowChange}
use Rattle.cas_mentions.specs.declared.change.RowChange.TheVariants as row_change

-- to change a column
abbrev pub change_in : RowChange → Change
change_in (row_change.Insert t) = assigns (assigned.Whole t.now)
change_in (row_change.Assign a) = assigns a.now
change_in (row_change.Delete k) = deletes k.now
