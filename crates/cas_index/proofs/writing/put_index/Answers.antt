use Rattle.std.proofs.Common.{arith}
use Rattle.cas_index.proofs.SearchLaws.{entries_room}
use Rattle.cas_index.proofs.writing.put_index.Goals as goal

pub put_entries-requires-clause-rooms : goal.put_entries-requires-clause-rooms
put_entries-requires-clause-rooms c = entries_room _ _ c.as_slice.ensures.entries

pub put_entries-requires-clause-few : goal.put_entries-requires-clause-few
put_entries-requires-clause-few c = omega (arith, c.as_slice.ensures.entries.few)
