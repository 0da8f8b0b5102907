use Rattle.define_laws.proofs.Telling.{named_segments_define_nothing}
use Rattle.define_laws.proofs.laws.named_segments_define_nothing.Goals as goal

pub returns : goal.returns
returns c = named_segments_define_nothing
