-- What stands after a DELETE's USING.
use Rattle.std.proofs.Common.{◌≡◌, ℤ, false, Option, None, Some, refl}
use Rattle.cas_reasons.specs.RowFaults.{uses_twice}
use Rattle.cas_reasons.specs.Statements.{timestamp_of, ttl_of, at_timestamp, timestamp_in, ttl_in}

pub deleted_at : (at : Option ℤ) → timestamp_in (at_timestamp at) ≡ at
unfolding timestamp_in timestamp_of
deleted_at None = refl
deleted_at (Some n) = refl

pub deleted_for_ever : (at : Option ℤ) → ttl_in (at_timestamp at) ≡ None
unfolding ttl_in ttl_of
deleted_for_ever None = refl
deleted_for_ever (Some n) = refl

pub deleted_once : (at : Option ℤ) → uses_twice (at_timestamp at) ≡ false
unfolding uses_twice timestamp_of ttl_of
deleted_once None = refl
deleted_once (Some n) = refl
