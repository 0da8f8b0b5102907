use Rattle.std.proofs.Common.{◌<◌, take}
use Rattle.std.specs.Prelude.{IsAscii}
use Rattle.cas_lines.proofs.line.is_ascii.Given as goal

-- where the greatest byte up to now is of ASCII, all are
abbrev pub invariant-loop-byte : goal.invariant-loop-byte
invariant-loop-byte l = l.most < 128 → IsAscii (take l.byte-index l.text)
