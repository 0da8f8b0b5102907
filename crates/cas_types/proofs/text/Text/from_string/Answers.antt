use Rattle.std.proofs.lemmas.Str.{IsUtf8-had}
use Rattle.cas_types.proofs.text.Text.from_string.Goals as goal

-- a String's bytes are UTF-8
pub invariant_of-result : goal.invariant_of-result
invariant_of-result c = rw (c.from_vec.ensures, c.into_bytes.ensures.value) (IsUtf8-had _ c.args.text.ok)
