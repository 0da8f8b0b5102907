-- What functions of the code answer for definitions that stand elsewhere.
use Rattle.std.specs.Prelude.{◌≡◌, Some, Result, Ok, Err}
use Rattle.cas_effects.specs.TooLarge.{write_too_large}
use Rattle.cas_effects.specs.declared.effect.BoundWrite.{BoundWrite}
use Rattle.cas_effects.specs.declared.refusal.BindFault.{BindFault}
use Rattle.cas_effects.specs.declared.refusal.BindFault.TheVariants as fault

-- a bound write, unless memory ran out or the write's key is too large
abbrev pub WriteGives : Result BoundWrite BindFault → BoundWrite → Type 0
WriteGives (Ok w) b = w ≡ b
WriteGives (Err (fault.Refused r)) b = write_too_large b ≡ Some r
WriteGives (Err fault.Mem) b = Unit {0}
