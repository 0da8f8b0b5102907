-- A head is read of the front of what is left as of the whole.
use Rattle.std.proofs.Common.{◌≡◌, ℕ, ◌+◌, ◌-◌, ◌≤◌, List, ◌++◌, length, take, drop, sym, ap, ◌∙◌, append_assoc, take-append-drop}
use Rattle.std.proofs.lemmas.List.{take-take}
use Rattle.cas_types.specs.Limits.{IsNarrow}
use Rattle.cas_types.specs.declared.schema.Column.{Column}
use Rattle.cas_codec.specs.Exact.{AreBytes}
use Rattle.cas_codec.proofs.Exactness.{read_left}
use Rattle.cas_fragments.specs.Blocks.{head_bytes}
use Rattle.cas_fragments.specs.Reading.{head_at}
use Rattle.cas_fragments.specs.declared.heads.Head.{Head}
use Rattle.cas_fragments.specs.declared.heads.Version.{Version}
use Rattle.cas_fragments.proofs.FragmentLaws.{head_exact}
use Rattle.cas_blocks.specs.Heads.{IsHeadAt}
use Rattle.cas_blocks.specs.Reading.{left_at}

-- what follows a head doesn't matter
head_longer : (version : Version) (columns : List Column) → IsNarrow columns → (front more : List ℕ) (place : ℕ) (h : Head) → AreBytes front
    → IsHeadAt version columns (read_left front place) h → IsHeadAt version columns (read_left (front ++ more) place) h
head_longer version columns narrow front more place h are is =
    let f = (head_exact version columns narrow).found (read_left front place) is.0 (h.key, h.top, h.columns) are is.1 in
    let head : List ℕ = head_bytes version h.key h.top h.columns in (
      read_left (is.0.bytes ++ more) (place + length head),
      ap (λ (t : List ℕ). head_at version columns (read_left t place)) (ap (λ (t : List ℕ). t ++ more) f.1.bytes ∙ append_assoc head is.0.bytes more)
          ∙ (head_exact version columns narrow).again (h.key, h.top, h.columns) (is.0.bytes ++ more) place f.0,
    )

-- a head that was read of so many bytes
pub front_head : (version : Version) (columns : List Column) → IsNarrow columns → (file : List ℕ) (end place long : ℕ) (h : Head) → long ≤ end - place
    → AreBytes (take long (drop place file)) × IsHeadAt version columns (read_left (take long (drop place file)) place) h → IsHeadAt version columns (left_at file end place) h
front_head version columns narrow file end place long h within is =
    let left : List ℕ = take (end - place) (drop place file) in
    let whole : take long (drop place file) ++ drop long left ≡ left =
    ap (λ (t : List ℕ). t ++ drop long left) (sym (take-take long (end - place) (drop place file) within)) ∙ take-append-drop long left in
    let more = head_longer version columns narrow (take long (drop place file)) (drop long left) place h is.0 is.1 in
    (more.0, ap (λ (t : List ℕ). head_at version columns (read_left t place)) (sym whole) ∙ more.1)
