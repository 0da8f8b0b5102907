-- What a reading of a partition's head answers (own).
use Rattle.std.specs.Prelude.{◌≡◌, ℕ, List, Result, Ok, Err}
use Rattle.cas_types.specs.declared.schema.Column.{Column}
use Rattle.cas_codec.specs.Reading.{Left}
use Rattle.cas_codec.specs.declared.fault.ReadFault.{ReadFault}
use Rattle.cas_fragments.specs.Reading.{head_at}
use Rattle.cas_fragments.specs.declared.heads.Head.{Head}
use Rattle.cas_fragments.specs.declared.heads.Version.{Version}
use Rattle.cas_blocks.specs.declared.fault.TableFault.{TableFault}
use Rattle.cas_blocks.specs.declared.fault.TableFault.TheVariants as table_fault

-- the head that stands there in a file of this version, whatever follows it
abbrev pub IsHeadAt : Version → List Column → Left → Head → Type 0
IsHeadAt version columns left h = (rest : Left) × (head_at version columns left ≡ Ok ((h.key, h.top, h.columns), rest))

-- none stands there
abbrev pub NoHeadAt : Version → List Column → Left → Type 0
NoHeadAt version columns left = (f : ReadFault) × (head_at version columns left ≡ Err f)

-- what is answered of a file of that number: the head that stands at the place, or that none does
abbrev pub HeadAnswers : Version → List Column → ℕ → Left → Result Head TableFault → Type 0
HeadAnswers version columns number left (Ok h) = IsHeadAt version columns left h
HeadAnswers version columns number left (Err table_fault.Read) = Unit {0}
HeadAnswers version columns number left (Err (table_fault.BadBlock n at)) = (n ≡ number) × (at ≡ left.at) × NoHeadAt version columns left
HeadAnswers version columns number left (Err table_fault.Mem) = Unit {0}
