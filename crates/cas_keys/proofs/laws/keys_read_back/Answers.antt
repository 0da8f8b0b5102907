use Rattle.cas_keys.proofs.KeysBack.{keys_read_back}
use Rattle.cas_keys.proofs.laws.keys_read_back.Goals as goal

pub returns : goal.returns
returns c = keys_read_back
