-- The next block of a partition, by what its bytes are.
use Rattle.std.proofs.Common.{◌≡◌, ℕ, ◌+◌, ◌-◌, ◌<◌, ◌≤◌, Bool, true, false, eqb, leb, List, [], ◌∷◌, length, drop, Option, None, Some, Result, Ok, Err, refl, sym, ap, subst, ◌∙◌, arith}
use Rattle.std.specs.Prelude.{slice_get}
use Rattle.std.specs.List.{last_or}
use Rattle.std.proofs.lemmas.Bool.{eqb-true, eqb-false}
use Rattle.cas_types.specs.Limits.{IsNarrow}
use Rattle.cas_types.specs.declared.schema.Column.{Column}
use Rattle.cas_bounds.specs.ClusteringOrder.{clustering_order}
use Rattle.cas_bounds.specs.declared.order.Ordered.{Ordered}
use Rattle.cas_codec.specs.Exact.{AreBytes}
use Rattle.cas_codec.specs.Reading.{Left, Read, bytes32_at}
use Rattle.cas_codec.specs.declared.fault.ReadFault.{ReadFault}
use Rattle.cas_codec.specs.declared.fault.ReadFault.TheVariants.{Bad}
use Rattle.cas_codec.proofs.Exactness.{read_left}
use Rattle.cas_streams.specs.Places.{place_of}
use Rattle.cas_streams.specs.Streams.{IsThere}
use Rattle.cas_streams.specs.declared.fragment.Fragment.{Fragment}
use Rattle.cas_fragments.specs.Blocks.{Reached, past, past_all, last_place, is_full}
use Rattle.cas_fragments.specs.Reading.{body_at, next_block_at}
use Rattle.cas_fragments.specs.declared.blocks.TheConstants.{BLOCK_LEAST}
use Rattle.cas_fragments.proofs.BlockLaws.{blocks_exact, few_fragments}
use Rattle.cas_blocks.specs.Reading.{left_at}
use Rattle.cas_blocks.specs.Inner.Bodies.{NoBody, IsBody}
use Rattle.cas_blocks.specs.Inner.Steps.{reached, IsStep, ParsesTo, Parses, Answers, IsShorter}
use Rattle.cas_blocks.specs.declared.fault.TableFault.{TableFault}
use Rattle.cas_blocks.specs.declared.fault.TableFault.TheVariants as table_fault
use Rattle.cas_blocks.specs.declared.steps.Step.{Step}
use Rattle.cas_blocks.proofs.Bodies.{left_behind}
use Rattle.cas_blocks.specs.declared.steps.Onward.{Onward}
use Rattle.cas_fragments.proofs.BlockLoop.{empty_length, some_length, last_some}

-- ---- the place of the last fragment

last_is : (o : Option Fragment) (r : Reached) (fs : List Fragment) → r.last ≡ last_place o → (past_all r fs).last ≡ last_place (last_or o fs)
last_is o r [] e = e
last_is o r (f ∷ fs) e = last_is (Some f) (past r f) fs refl

pub marked : (r : Reached) (fs : List Fragment) (x mark : Fragment) → Some x ≡ slice_get fs (length fs - 1) → place_of mark ≡ place_of x → IsThere fs
    → place_of mark ≡ (past_all r fs).last
marked r [] x mark e same there = absurd there
marked r (f ∷ fs) x mark e same there =
    same ∙ ap last_place (last_some None (f ∷ fs) x e) ∙ sym (last_is (Some f) (past r f) fs refl)

-- ---- what a block's bytes tell of it

pub record BodyIs (fs : List Fragment) (body : List ℕ) : Type 0 where
  pub some : IsThere fs
  pub few : length fs ≤ length body
  pub full : is_full fs ≡ leb BLOCK_LEAST (length body)

pub body_is : (order : List Ordered) (columns : List Column) → order ≡ clustering_order columns → IsNarrow columns → (r : Reached) (old new : Left) (fs : List Fragment)
    → AreBytes old.bytes → body_at order columns r old ≡ Ok (fs, new) → BodyIs fs old.bytes
body_is order columns is narrow r old new fs are e =
    let f = blocks_exact.found columns narrow r old new fs are (ap (λ (o : List Ordered). body_at o columns r old) (sym is) ∙ e) in record {
      some = f.0.some;
      few = omega (arith, few_fragments columns fs f.0.fit, ap length f.1);
      full = ap (λ (t : List ℕ). leb BLOCK_LEAST (length t)) (sym f.1);
    }

-- the bytes are read as they stand in the file
pub parsed : (order : List Ordered) (columns : List Column) → order ≡ clustering_order columns → IsNarrow columns → (o : Onward) (last : Option Fragment)
    → last ≡ o.last → (body : List ℕ) → AreBytes body → (old new : Left) → old.bytes ≡ body → old.at ≡ o.place + 4 → (fs : List Fragment)
    → body_at order columns (record { last = last_place last; force = o.force }) old ≡ Ok (fs, new) → BodyIs fs body × ParsesTo order columns o body fs
parsed order columns is narrow o last before body are old new bytes at fs e =
    let here : record { bytes = body; at = o.place + 4 } ≡ old = λ i. record { bytes = sym bytes i; at = sym at i } in
    let there : body_at order columns (reached o) (record { bytes = body; at = o.place + 4 }) ≡ Ok (fs, new) =
    ap (body_at order columns (reached o)) here ∙ ap (λ (l : Option Fragment). body_at order columns (record { last = last_place l; force = o.force }) old) (sym before) ∙ e in
    (body_is order columns is narrow (reached o) (record { bytes = body; at = o.place + 4 }) new fs are there, (new, there))

-- ---- the next block

module _ (order : List Ordered) (columns : List Column) (ends goes_on : Bool) (r : Reached) (left : Left) where
  abbrev Next : Read (Option (List Fragment)) → Type 0
  Next read = next_block_at order columns ends goes_on r left ≡ read

  pub next_none : (f : ReadFault) → bytes32_at left ≡ Err f → Next (Err f)
  unfolding next_block_at
  next_none f e = rw e refl

  module _ (body : List ℕ) (new : Left) (there : bytes32_at left ≡ Ok (body, new)) where
    pub next_end : length body ≡ 0 → ends ≡ true → Next (Ok (None, new))
    unfolding next_block_at
    next_end none e = rw (there, empty_length body none, e) refl

    pub next_no_end : length body ≡ 0 → ends ≡ false → Next (Err (Bad left.at))
    unfolding next_block_at
    next_no_end none e = rw (there, empty_length body none, e) refl

    pub next_no_more : 0 < length body → goes_on ≡ false → Next (Err (Bad left.at))
    unfolding next_block_at
    next_no_more some e = rw (there, some_length body some, e) refl

    pub next_is : 0 < length body → goes_on ≡ true → (fs : List Fragment) (inner : Left)
        → body_at order columns r (read_left body (left.at + 4)) ≡ Ok (fs, inner) → Next (Ok (Some fs, new))
    unfolding next_block_at
    next_is some e fs inner is = rw (there, some_length body some, e, is) refl

    pub next_bad : 0 < length body → goes_on ≡ true → (f : ReadFault)
        → body_at order columns r (read_left body (left.at + 4)) ≡ Err f → Next (Err f)
    unfolding next_block_at
    next_bad some e f is = rw (there, some_length body some, e, is) refl

-- ---- what is answered

module _ (order : List Ordered) (columns : List Column) (number end : ℕ) (file : List ℕ) (o : Onward) where
  pub unread : NoBody (left_at file end o.place) → (f : ReadFault) × (next_block_at order columns o.ends o.goes_on (reached o) (left_at file end o.place) ≡ Err f)
  unread none = (none.0, next_none order columns o.ends o.goes_on (reached o) (left_at file end o.place) none.0 none.1)

  module _ (body : List ℕ) (there : IsBody body (left_at file end o.place)) where
    abbrev rest : Left
    rest = read_left (drop (length body) (drop 4 (left_at file end o.place).bytes)) (o.place + 4 + length body)

    pub ended : length body ≡ 0 → o.ends ≡ true
        → (left : Left) × (next_block_at order columns o.ends o.goes_on (reached o) (left_at file end o.place) ≡ Ok (None, left))
    ended none e = (rest, next_end order columns o.ends o.goes_on (reached o) (left_at file end o.place) body rest there none e)

    pub not_ended : length body ≡ 0 → o.ends ≡ false
        → (f : ReadFault) × (next_block_at order columns o.ends o.goes_on (reached o) (left_at file end o.place) ≡ Err f)
    not_ended none e = (Bad o.place, next_no_end order columns o.ends o.goes_on (reached o) (left_at file end o.place) body rest there none e)

    pub no_more : 0 < length body → o.goes_on ≡ false
        → (f : ReadFault) × (next_block_at order columns o.ends o.goes_on (reached o) (left_at file end o.place) ≡ Err f)
    no_more some e = (Bad o.place, next_no_more order columns o.ends o.goes_on (reached o) (left_at file end o.place) body rest there some e)

    pub went_on : 0 < length body → o.goes_on ≡ true → o.place + 4 + length body ≤ end → (step : Step)
        → ParsesTo order columns o body step.fragments × IsStep o (length body) step → Answers order columns number end file o (Ok (Some step))
    went_on some e within step is = (
      next_is order columns o.ends o.goes_on (reached o) (left_at file end o.place) body rest there some e step.fragments is.0.0 is.0.1
          ∙ ap (λ (l : Left). Ok (Some step.fragments, l)) (left_behind file end o.place (length body) within
          ∙ ap (left_at file end) (sym is.1.place)),
      is.1.behind,
    )

    pub went_bad : 0 < length body → o.goes_on ≡ true → (f : TableFault) → Parses order columns number o body (Err f)
        → Answers order columns number end file o (Err f)
    went_bad some e table_fault.Read is = tt
    went_bad some e (table_fault.BadBlock n at) is =
        (is.0, is.1, (is.2.0, next_bad order columns o.ends o.goes_on (reached o) (left_at file end o.place) body rest there some e is.2.0 is.2.1))
    went_bad some e table_fault.Mem is = tt

pub shorter : (end long : ℕ) (o : Onward) (step : Step) → o.place + 4 + long ≤ end → IsStep o long step → IsShorter end o step
shorter end long o step within is = record { some = is.some; room = omega (arith, is.few, is.place) }

pub never_read : (order : List Ordered) (columns : List Column) (number : ℕ) (o : Onward) (body : List ℕ) (f : TableFault)
    → Parses order columns number o body (Err f) → (let r : Result (Option Step) TableFault = Err f in r) ≡ Err table_fault.Read → ⊥
never_read order columns number o body table_fault.Read is e = is
never_read order columns number o body (table_fault.BadBlock n at) is e = cc
never_read order columns number o body table_fault.Mem is e = cc

-- ---- tests and faults as the code has them

pub no_bytes : (n : ℕ) (b : Bool) → b ≡ eqb n 0 → b ≡ true → n ≡ 0
no_bytes n b is e = eqb-true n 0 (sym is ∙ e)

pub some_bytes : (n : ℕ) (b : Bool) → b ≡ eqb n 0 → b ≡ false → 0 < n
some_bytes n b is e = let not_none : n ≡ 0 → ⊥ = eqb-false n 0 (sym is ∙ e) in omega arith

-- the answer that what stands there is bad
pub told_bad : (order : List Ordered) (columns : List Column) (number end : ℕ) (file : List ℕ) (o : Onward) (f : TableFault) → f ≡ table_fault.BadBlock number o.place
    → (g : ReadFault) × (next_block_at order columns o.ends o.goes_on (reached o) (left_at file end o.place) ≡ Err g)
    → Answers order columns number end file o (Err f)
told_bad order columns number end file o f is bad =
    subst (λ (x : TableFault). Answers order columns number end file o (Err x)) (sym is) (refl, refl, bad)
