use Rattle.cas_lines.proofs.LineLemmas.{lines_at, lines_last}
use Rattle.cas_lines.proofs.lines.next_line.Goals as goal

pub returns-then-at-text-clause-lines : goal.returns-then-at-text-clause-lines
returns-then-at-text-clause-lines c = lines_last c.args.text.now c.requires (rw (← c.feed_place-at.ensures) c.if-at-text.true)

pub returns-clause-lines : goal.returns-clause-lines
returns-clause-lines c = lines_at c.args.text.now _ c.feed_place-at.result c.feed_place-at.ensures c.if-at-text.false c.without_return.ensures
