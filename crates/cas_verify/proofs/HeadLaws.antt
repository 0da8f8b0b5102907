-- A head is read of the front of what is left as of the whole.
use Rattle.std.proofs.Common.{◌≡◌, ℕ, ◌+◌, ◌-◌, ◌<◌, ◌≤◌, ◌^◌, true, List, ◌++◌, length, take, drop, Option, Result, Ok, Err, inl, inr, refl, sym, ap, ◌∙◌, append_assoc, arith, length-append, length-take, take-append-drop}
use Rattle.std.proofs.lemmas.List.{take-take, drop-take, drop-drop, drop_at}
use Rattle.cas_types.specs.Limits.{IsNarrow}
use Rattle.cas_types.specs.Values.{bytes_cmp}
use Rattle.cas_types.specs.declared.schema.Column.{Column}
use Rattle.cas_cell.specs.declared.deletion.Deletion.{Deletion}
use Rattle.cas_atoms.specs.Fits.{FitsKey}
use Rattle.cas_atoms.specs.declared.row.RowColumn.{RowColumn}
use Rattle.cas_codec.specs.Fields.{bytes16}
use Rattle.cas_codec.specs.declared.fault.ReadFault.{ReadFault}
use Rattle.cas_codec.specs.declared.fault.ReadFault.TheVariants.{Short, Bad, Mem}
use Rattle.cas_codec.specs.Exact.{AreBytes, IsExact}
use Rattle.cas_codec.specs.Reading.{Left, Read, ◌>>=◌, checked}
use Rattle.cas_codec.proofs.Exactness.{bind_ok, exact_checked, read_left}
use Rattle.cas_records.specs.Reading.{key_at}
use Rattle.cas_records.proofs.CellLaws.{key_exact}
use Rattle.cas_fragments.specs.Allowed.{FitsHead}
use Rattle.cas_fragments.specs.Blocks.{head_bytes}
use Rattle.cas_fragments.specs.Reading.{is_above, head_at}
use Rattle.cas_fragments.specs.declared.heads.Head.{Head}
use Rattle.cas_fragments.proofs.FragmentLaws.{head_exact}
use Rattle.cas_fragments.specs.declared.heads.Version.{Version}
use Rattle.cas_blocks.specs.Reading.{left_at}
use Rattle.cas_sstread.specs.declared.fault.TableFault.{TableFault}
use Rattle.cas_verify.specs.Inner.Ends.{Ends, fault_in}
use Rattle.cas_verify.specs.Inner.Heads.{FrontTells}
use Rattle.cas_verify.specs.Inner.Scans.{next_head_at, IsHead}

-- ---- what follows doesn't matter

longer : {A : Type 0} (Fits : A → Type 0) (spelling : A → List ℕ) (reading : Left → Read A) → IsExact Fits spelling reading → (front more : List ℕ) (place : ℕ) (x : A) (new : Left)
    → AreBytes front → reading (read_left front place) ≡ Ok (x, new) → reading (read_left (front ++ more) place) ≡ Ok (x, read_left (new.bytes ++ more) new.at)
longer Fits spelling reading exact front more place x new are is =
    let f = exact.found (read_left front place) new x are is in
    ap (λ (t : List ℕ). reading (read_left t place)) (ap (λ (t : List ℕ). t ++ more) f.1.bytes ∙ append_assoc (spelling x) new.bytes more)
    ∙ exact.again x (new.bytes ++ more) place f.0
    ∙ ap (λ (n : ℕ). Ok (x, read_left (new.bytes ++ more) n)) (sym f.1.at)

abbrev HeadOf : Type 0
HeadOf = List ℕ × Option Deletion × List RowColumn

-- so many bytes further
pub left_after : (file : List ℕ) (end place n : ℕ) → n ≤ end - place → read_left (drop n (left_at file end place).bytes) (place + n) ≡ left_at file end (place + n)
left_after file end place n within =
    let split : end - place ≡ n + (end - (place + n)) = omega arith in
    ap (λ (t : List ℕ). read_left t (place + n))
    (ap (λ (m : ℕ). drop n (take m (drop place file))) split
    ∙ drop-take n (end - (place + n)) (drop place file)
    ∙ ap (take (end - (place + n))) (drop-drop n place file))

module _ (version : Version) (columns : List Column) (narrow : IsNarrow columns) (before : Option (List ℕ)) where
  abbrev above_exact : IsExact (λ k. FitsKey k × (is_above bytes_cmp before k ≡ true)) bytes16 (checked (is_above bytes_cmp before) key_at)
  above_exact = exact_checked FitsKey bytes16 key_at (is_above bytes_cmp before) key_exact

  -- the head that was read of so many bytes
  pub front_head : (file : List ℕ) (end place long : ℕ) (h : Head × ℕ) → long ≤ end - place
      → FrontTells version columns before (read_left (take long (drop place file)) place) (Ok h)
      → (p : HeadOf × Left) × (next_head_at version columns before (left_at file end place) ≡ Ok p) × IsHead version end file place h.0 h.1 p
  unfolding next_head_at
  front_head file end place long h within told =
      let front : List ℕ = take long (drop place file) in
      let left : List ℕ = take (end - place) (drop place file) in
      let more : List ℕ = drop long left in
      let whole : front ++ more ≡ left =
      ap (λ (t : List ℕ). t ++ more) (sym (take-take long (end - place) (drop place file) within)) ∙ take-append-drop long left in
      let head : HeadOf = (h.0.key, h.0.top, h.0.columns) in
      let text : List ℕ = head_bytes version h.0.key h.0.top h.0.columns in
      let new : Left = told.1 in
      let one = bind_ok (checked (is_above bytes_cmp before) key_at (read_left front place)) (λ (key : List ℕ × Left). head_at version columns (read_left front place)) (head, new) told.2 in
      let key = longer (λ k. FitsKey k × (is_above bytes_cmp before k ≡ true)) bytes16 (checked (is_above bytes_cmp before) key_at) above_exact front more place one.0.0 one.0.1 told.0 one.1 in
      let found = (head_exact version columns narrow).found (read_left front place) new head told.0 one.2 in
      let there = longer (FitsHead version columns) (λ x. head_bytes version x.0 x.1 x.2) (head_at version columns) (head_exact version columns narrow) front more place head new told.0 one.2 in
      let split : left ≡ text ++ (new.bytes ++ more) =
      sym whole ∙ ap (λ (t : List ℕ). t ++ more) found.1.bytes ∙ append_assoc text new.bytes more in
      let few : length text ≤ end - place =
      omega (arith, ap length split, length-append text (new.bytes ++ more), length-take (end - place) (drop place file)) in
      let rest : new.bytes ++ more ≡ drop (length text) left = sym (drop_at text (new.bytes ++ more) (length text) refl) ∙ ap (drop (length text)) (sym split) in
      let at : h.1 ≡ place + length text = told.3 ∙ found.1.at in (
        (head, read_left (new.bytes ++ more) new.at),
        ap (λ (t : List ℕ). checked (is_above bytes_cmp before) key_at (read_left t place) >>= λ (k : List ℕ × Left). head_at version columns (read_left t place)) (sym whole)
            ∙ ap (λ r. r >>= λ (k : List ℕ × Left). head_at version columns (read_left (front ++ more) place)) key ∙ there,
        record {
          head = refl;
          left = (λ i. read_left (rest i) (found.1.at i)) ∙ left_after file end place (length text) few ∙ ap (left_at file end) (sym at);
          long = at;
        },
      )

  -- all that is left was read
  pub last_fault : (file : List ℕ) (end place number : ℕ) (f : ReadFault) → FrontTells version columns before (left_at file end place) (Err f)
      → Ends (λ h p. IsHead version end file place h.0 h.1 p) number (let r : Result (Head × ℕ) TableFault = Err (fault_in number f) in r)
      (next_head_at version columns before (left_at file end place))
  last_fault file end place number (Short at) told = (refl, inl told)
  last_fault file end place number (Bad at) told = (refl, inr told)
  last_fault file end place number Mem told = tt

  pub head_key : (bytes : List ℕ) (place : ℕ) (h : HeadOf) (new : Left) → AreBytes bytes → next_head_at version columns before (read_left bytes place) ≡ Ok (h, new) → length h.0 < 2 ^ 16
  unfolding next_head_at
  head_key bytes place h new are e =
      let one = bind_ok (checked (is_above bytes_cmp before) key_at (read_left bytes place)) (λ (key : List ℕ × Left). head_at version columns (read_left bytes place)) (h, new) e in
      let f = (head_exact version columns narrow).found (read_left bytes place) new h are one.2 in
      let most = f.0.0.1 in omega arith
