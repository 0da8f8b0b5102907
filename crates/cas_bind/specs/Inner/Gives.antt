-- What functions of the code answer for definitions that stand elsewhere.
use Rattle.std.specs.Prelude.{◌≡◌, Some, Result, Ok, Err}
use Rattle.cas_bind.specs.Selects.{read_too_large}
use Rattle.cas_effects.specs.declared.refusal.BindFault.{BindFault}
use Rattle.cas_effects.specs.declared.refusal.BindFault.TheVariants as fault
use Rattle.cas_bind.specs.declared.bound.BoundRead.{BoundRead}

-- a bound read, unless memory ran out or the read's key is too large
abbrev pub ReadGives : Result BoundRead BindFault → BoundRead → Type 0
ReadGives (Ok r) b = r ≡ b
ReadGives (Err (fault.Refused x)) b = read_too_large b ≡ Some x
ReadGives (Err fault.Mem) b = Unit {0}
