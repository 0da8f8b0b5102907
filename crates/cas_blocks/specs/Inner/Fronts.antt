-- What a reading of the front of what is left answers (own).
use Rattle.std.specs.Prelude.{List, Option, None, Some, Result, Ok, Err}
use Rattle.cas_types.specs.declared.schema.Column.{Column}
use Rattle.cas_codec.specs.Exact.{AreBytes}
use Rattle.cas_codec.specs.Reading.{Left}
use Rattle.cas_fragments.specs.declared.heads.Head.{Head}
use Rattle.cas_fragments.specs.declared.heads.Version.{Version}
use Rattle.cas_blocks.specs.Heads.{IsHeadAt, NoHeadAt}
use Rattle.cas_blocks.specs.declared.fault.TableFault.{TableFault}
use Rattle.cas_blocks.specs.declared.fault.TableFault.TheVariants as table_fault

-- the head with which it begins, or that none does
abbrev pub FrontAnswers : Version → List Column → Left → Result (Option Head) TableFault → Type 0
FrontAnswers version columns left (Ok None) = NoHeadAt version columns left
FrontAnswers version columns left (Ok (Some h)) = AreBytes left.bytes × IsHeadAt version columns left h
FrontAnswers version columns left (Err table_fault.Read) = Unit {0}
FrontAnswers version columns left (Err (table_fault.BadBlock n at)) = ⊥
FrontAnswers version columns left (Err table_fault.Mem) = Unit {0}
