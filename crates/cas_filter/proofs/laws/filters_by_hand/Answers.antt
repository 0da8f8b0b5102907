use Rattle.std.proofs.Common.{refl}
use Rattle.cas_filter.specs.Hashing.{hash_step, hash, probe, probes}
use Rattle.cas_filter.specs.Filters.{is_probe, is_probed, byte_of, filter_of}
use Rattle.cas_filter.proofs.laws.filters_by_hand.Goals as goal

pub returns : goal.returns
unfolding hash_step hash probe probes is_probe is_probed byte_of filter_of
returns c = record { none = refl; a = refl; foobar = refl; filter = refl }
