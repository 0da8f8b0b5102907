use Rattle.std.proofs.Common.{◌≡◌, ◌-◌, length}
use Rattle.cql_phrases.specs.Inner.Reading.{more_at}
use Rattle.cql_phrases.proofs.Loop.{with_front}
use Rattle.cql_phrases.proofs.lists.list_from.Given as goal

abbrev pub invariant-loop : goal.invariant-loop
invariant-loop g l =
    with_front l.items.items (more_at l.separator g.X.Part.reads (length l.input - l.counter) l.rest)
    ≡ with_front l.fn.front.items (more_at l.separator g.X.Part.reads (length l.input) l.input)
