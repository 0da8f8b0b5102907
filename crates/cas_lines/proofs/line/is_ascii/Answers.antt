use Rattle.std.proofs.Common.{length}
use Rattle.std.proofs.lemmas.Bool.{ltb-true}
use Rattle.cas_lines.proofs.Ascii.{all_ascii}
use Rattle.cas_lines.proofs.line.is_ascii.Goals as goal

pub returns : goal.returns
returns c = λ e. all_ascii c.args.text.now c.loop-byte.byte-index c.loop-byte-test.false (c.loop-byte.invariant (ltb-true c.loop-byte.most 128 e))
