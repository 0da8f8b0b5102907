-- What is to come of a purge (own).
use Rattle.std.specs.Prelude.{ℤ, Bool, Option, None, Some, List}
use Rattle.cas_streams.specs.declared.fragment.Fragment.{Fragment}
use Rattle.cas_purge.specs.Purged.{purged_from}

-- what stays of what is to come, where that is told
abbrev pub purged_to_come : ℤ → ℤ → Bool → Option (List Fragment) → Option (List Fragment)
purged_to_come before limit now None = None
purged_to_come before limit now (Some fs) = Some (purged_from before limit now fs)
