use Rattle.cas_filter.proofs.FilterLaws.{sets_what_is_probed, is_only, holds_its_keys, has_no_order}
use Rattle.cas_filter.proofs.laws.filters_hold_their_keys.Goals as goal

pub returns : goal.returns
returns c = record {
  bits = sets_what_is_probed;
  only = is_only;
  held = holds_its_keys;
  order = has_no_order;
}
