-- What a statement comes to, or why it is refused.
-- Own: a refused statement changes nothing, and running out of memory is no refusal.
use Rattle.std.specs.Prelude.{◌≡◌, Option, None, Some, Result, Ok, Err}
use Rattle.cas_effects.specs.declared.refusal.Refusal.{Refusal}
use Rattle.cas_effects.specs.declared.refusal.BindFault.{BindFault}
use Rattle.cas_effects.specs.declared.refusal.BindFault.TheVariants as fault

-- what the statement comes to, unless there is a refusal
abbrev pub outcome : {X : Type 0} → Option Refusal → X → Result X Refusal
outcome None x = Ok x
outcome (Some r) x = Err r

-- what is answered is what is meant, unless memory ran out
abbrev pub Binds : {X : Type 0} → Result X BindFault → Result X Refusal → Type 0
Binds (Ok x) m = m ≡ Ok x
Binds (Err (fault.Refused r)) m = m ≡ Err r
Binds (Err fault.Mem) m = Unit {0}
