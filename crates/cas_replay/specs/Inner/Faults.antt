-- A field's fault as one of a replay. Own.
use Rattle.std.specs.Prelude.{ℕ}
use Rattle.cas_codec.specs.declared.fault.ReadFault.{ReadFault}
use Rattle.cas_codec.specs.declared.fault.ReadFault.TheVariants as field
use Rattle.cas_replay.specs.declared.fault.ReplayFault.{ReplayFault}
use Rattle.cas_replay.specs.declared.fault.ReplayFault.TheVariants.{Bad, Mem}

-- a field of this segment that is short, or isn't allowed there
abbrev pub of_field : ℕ → ReadFault → ReplayFault
of_field segment (field.Short at) = Bad segment at
of_field segment (field.Bad at) = Bad segment at
of_field segment field.Mem = Mem
