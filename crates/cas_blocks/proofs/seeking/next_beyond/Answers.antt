use Rattle.cas_blocks.proofs.PiecesLeft.{comes, shrinks_on}
use Rattle.cas_blocks.proofs.seeking.next_beyond.Goals as goal

pub returns-clause-told : goal.returns-clause-told
returns-clause-told g c = λ fs told.
    comes c.args.file.now.order.now c.args.file.now.columns.now c.args.file.now.end (g.F.Sealed.contents c.args.file.now.sealed.now) c.args.slice.now
    c.args.force.now c.in_ok-now.now c.args.pieces.now.onward c.args.pieces.now.rest c.skip.new.self fs _ c.next.result told c.in_ok-now.ensures.passed
    c.next.ensures.first

pub returns-clause-ends : goal.returns-clause-ends
returns-clause-ends g c =
    shrinks_on c.args.file.now.order.now c.args.slice.now.lo c.args.force.now c.in_ok-now.now c.args.file.now.end c.args.pieces.now.onward
    c.args.pieces.now.rest c.skip.new.self _ c.next.result c.in_ok-now.ensures.passed c.next.ensures.ends
