-- What a reading of a head at the front of what is left answers (own).
use Rattle.std.specs.Prelude.{◌≡◌, ℕ, List, Option, Result, Ok, Err}
use Rattle.cas_types.specs.declared.schema.Column.{Column}
use Rattle.cas_codec.specs.Exact.{AreBytes}
use Rattle.cas_codec.specs.Reading.{Left}
use Rattle.cas_codec.specs.declared.fault.ReadFault.{ReadFault}
use Rattle.cas_codec.specs.declared.fault.ReadFault.TheVariants.{Short, Bad, Mem}
use Rattle.cas_fragments.specs.declared.heads.Head.{Head}
use Rattle.cas_fragments.specs.declared.heads.Version.{Version}
use Rattle.cas_verify.specs.Inner.Scans.{next_head_at}

-- the head with which it begins, and where that ends; or why it begins with none
abbrev pub FrontTells : Version → List Column → Option (List ℕ) → Left → Result (Head × ℕ) ReadFault → Type 0
FrontTells version columns before left (Ok h) =
    AreBytes left.bytes × (new : Left) × (next_head_at version columns before left ≡ Ok ((h.0.key, h.0.top, h.0.columns), new)) × (h.1 ≡ new.at)
FrontTells version columns before left (Err (Short at)) = next_head_at version columns before left ≡ Err (Short at)
FrontTells version columns before left (Err (Bad at)) = next_head_at version columns before left ≡ Err (Bad at)
FrontTells version columns before left (Err Mem) = Unit {0}
