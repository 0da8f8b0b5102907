use Rattle.cas_facts.proofs.Streams.{streams_tell_their_facts}
use Rattle.cas_facts.proofs.laws.streams_tell_their_facts.Goals as goal

pub returns : goal.returns
returns c = streams_tell_their_facts
