use Rattle.std.proofs.Common.{◌≡◌, ◌≤◌, List, Some}
use Rattle.cas_streams.specs.declared.fragment.Fragment.{Fragment}
use Rattle.cas_blocks.specs.Inner.Pieces.{left_of, room_of, FindsNoMore}
use Rattle.cas_blocks.proofs.PiecesLeft.{IsOn}
use Rattle.cas_blocks.proofs.seeking.seek.Given as goal

abbrev pub invariant-loop-fragment : goal.invariant-loop-fragment
invariant-loop-fragment g l = record {
  told : (fs : List Fragment) → left_of l.file.order.now l.file.columns.now l.file.end (g.F.Sealed.contents l.file.sealed.now) l.fn.pieces ≡ Some fs
      → IsOn l.file.order.now l.slice l.fn.force l.force fs
      (left_of l.file.order.now l.file.columns.now l.file.end (g.F.Sealed.contents l.file.sealed.now) l.pieces);
  room : room_of l.file.end l.pieces ≤ room_of l.file.end l.fn.pieces;
  narrows : FindsNoMore l.file.order.now l.file.columns.now l.file.number l.file.end (g.F.Sealed.contents l.file.sealed.now) l.fn.pieces.onward l.pieces.onward;
  faults : g.O.Origin.faults l.fn.state ≤ g.O.Origin.faults l.state;
  fits : g.O.Origin.fits (g.F.Sealed.contents l.file.sealed.now) l.file.end l.state;
  leads : g.O.Origin.leads l.fn.state l.state;
}

abbrev pub decreases-loop-fragment : goal.decreases-loop-fragment
decreases-loop-fragment g l = room_of l.file.end l.pieces
