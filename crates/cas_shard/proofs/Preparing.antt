-- The mutation of a write is ready for the log and for the memtable, unless it is refused.
use Rattle.std.proofs.Common.{◌≡◌, ℕ, ◌+◌, ◌≤◌, ℤ, pos, ◌≤ℤ◌, Bool, true, false, Option, None, Some, Result, Ok, Err, IfOk, is_none, unwrap_or, List, refl, sym, ap, ◌∙◌, subst, arith}
use Rattle.std.specs.Prelude.{cond, int_lt, slice_get, ◌+ℤ◌, if◌then◌else◌}
use Rattle.std.specs.List.{flat_map}
use Rattle.std.specs.Int.{int_max}
use Rattle.std.proofs.lemmas.Int.{ints}
use Rattle.std.proofs.lemmas.List.Elements.{recursion_from_All}
use Rattle.cas_types.specs.Limits.{IsMoment}
use Rattle.cas_types.specs.declared.limits.TheConstants.{LAST_DRAWN, MUTATION_LIMIT}
use Rattle.cas_types.specs.declared.schema.TableSchema.{TableSchema}
use Rattle.cas_atoms.specs.Fits.{Fits, FitsMutation}
use Rattle.cas_atoms.specs.declared.atom.Mutation.{Mutation}
use Rattle.cas_effects.specs.AtomsOf.{effect_atoms, mutation_of}
use Rattle.cas_effects.specs.FitsBound.{FitsBound}
use Rattle.cas_effects.specs.declared.effect.BoundWrite.{BoundWrite}
use Rattle.cas_effects.proofs.Fitting.{mutations_fit}
use Rattle.cas_partition.specs.Partitions.{AreAtomsOf}
use Rattle.cas_partition.proofs.Tabling.{all_fit_of}
use Rattle.cas_shard.specs.Shards.{IsTime, drawn_with, later_drawn, take_refusal, taken_unless}
use Rattle.cas_shard.specs.Stands.{Belongs, HasRoom, IsPrepared, IsReady, ShardState, Suits, order_at, order_of}
use Rattle.cas_shard.specs.Inner.Turns.{Answered}
use Rattle.cas_shard.specs.declared.answers.TakeFault.{TakeFault}
use Rattle.cas_shard.proofs.Refusals.{is_few, is_low, is_short}

-- ---- mutations of a table

-- its atoms are in the table's order
pub in_order : (tables : List TableSchema) (shards : ℕ) (m : Mutation) → Belongs tables shards m → AreAtomsOf (order_at tables m.table) m.atoms
in_order tables shards m is =
    let t : TableSchema = is.0 in
    subst (λ order. AreAtomsOf order m.atoms) (ap order_of (sym is.1)) (all_fit_of t.columns m.atoms (recursion_from_All (Fits t.columns) m.atoms is.2.atoms))

-- the last that was drawn is within the limit, with a mutation that was read back too
pub later_low : (a b : ℤ) → a ≤ℤ LAST_DRAWN → b ≤ℤ LAST_DRAWN → int_max a b ≤ℤ LAST_DRAWN
later_low a b x y = elim (int_lt b a) as (λ t. cond t a b ≤ℤ LAST_DRAWN) [ true ↦ x | false ↦ y ]

pub with_low : (m : Mutation) (drawn : ℤ) → drawn ≤ℤ LAST_DRAWN → (m.drawn ≡ true → m.at ≤ℤ LAST_DRAWN) → drawn_with drawn m ≤ℤ LAST_DRAWN
with_low m drawn low is = by m.drawn refl
  where
    by : (b : Bool) → m.drawn ≡ b → (if b then int_max drawn m.at else drawn) ≤ℤ LAST_DRAWN
    by true e = later_low drawn m.at low (is e)
    by false e = low

pub later_begun : (a b : ℤ) → IsMoment a → IsMoment b → IsMoment (int_max a b)
later_begun a b x y = elim (int_lt b a) as (λ t. IsMoment (cond t a b)) [ true ↦ x | false ↦ y ]

-- ---- the mutation of a write

-- with USING TIMESTAMP it doesn't depend on what is drawn
as_stated : (w : BoundWrite) (drawn other moment : ℤ) (number : ℕ) → unwrap_or w.timestamp drawn ≡ unwrap_or w.timestamp other → mutation_of w drawn moment number ≡ mutation_of w other moment number
unfolding mutation_of
as_stated w drawn other moment number e =
    ap (λ (at : ℤ).
    let m : Mutation = record {
      table = w.table;
      shard = w.shard;
      number = number;
      drawn = is_none w.timestamp;
      at = at;
      moment = moment;
      key = w.key;
      atoms = flat_map (effect_atoms (record { at = at; moment = moment; number = number; ttl = w.ttl })) w.effects;
    } in m) e

fits_drawn : (t : TableSchema) (shards : ℕ) (w : BoundWrite) (drawn moment : ℤ) (number : ℕ) (o : Option ℤ) → w.timestamp ≡ o → FitsBound t shards w → pos 0 ≤ℤ drawn → IsMoment moment
    → (1 ≤ number) × (number ≤ MUTATION_LIMIT) → (is_none o ≡ true → unwrap_or o drawn ≤ℤ LAST_DRAWN) → FitsMutation t shards (mutation_of w drawn moment number)
fits_drawn t shards w drawn moment number None e fits begun when counted low = mutations_fit t shards w drawn moment number fits (begun, low refl) when counted
fits_drawn t shards w drawn moment number (Some at) e fits begun when counted low =
    subst (FitsMutation t shards) (as_stated w (pos 0) drawn moment number (ap (λ o. unwrap_or o (pos 0)) e ∙ sym (ap (λ o. unwrap_or o drawn) e)))
    (mutations_fit t shards w (pos 0) moment number fits (omega (arith, ints), omega (arith, ints)) when counted)

low_of : (w : BoundWrite) (drawn moment : ℤ) (number : ℕ) → ((mutation_of w drawn moment number).drawn ≡ true → (mutation_of w drawn moment number).at ≤ℤ LAST_DRAWN)
    → is_none w.timestamp ≡ true → unwrap_or w.timestamp drawn ≤ℤ LAST_DRAWN
unfolding mutation_of
low_of w drawn moment number h = h

number_is : (w : BoundWrite) (drawn moment : ℤ) (number : ℕ) → (mutation_of w drawn moment number).number ≡ number
unfolding mutation_of
number_is w drawn moment number = refl

table_is : (w : BoundWrite) (drawn moment : ℤ) (number : ℕ) → (mutation_of w drawn moment number).table ≡ w.table
unfolding mutation_of
table_is w drawn moment number = refl

shard_is : (w : BoundWrite) (drawn moment : ℤ) (number : ℕ) → (mutation_of w drawn moment number).shard ≡ w.shard
unfolding mutation_of
shard_is w drawn moment number = refl

begun_max : (a b : ℤ) → pos 0 ≤ℤ a → pos 0 ≤ℤ int_max a b
begun_max a b h = elim (int_lt b a) as (λ t. int_lt b a ≡ t → pos 0 ≤ℤ cond t a b) [ true ↦ λ e. h | false ↦ λ e. grind (arith, ints, e) ] refl

is_begun : (reading drawn : ℤ) → IsTime reading → pos 0 ≤ℤ later_drawn reading drawn
is_begun reading drawn time = begun_max reading (drawn +ℤ pos 2) time.0

made_ready : (segment : ℕ) (w : BoundWrite) (at moment : ℤ) (number : ℕ) → pos 0 ≤ℤ at → IsMoment moment → take_refusal segment (mutation_of w at moment (number + 1)) ≡ None
    → IsReady segment w (mutation_of w at moment (number + 1))
made_ready segment w at moment number begun when none = record {
  table = table_is w at moment (number + 1);
  shard = shard_is w at moment (number + 1);
  short = is_short segment (mutation_of w at moment (number + 1)) none;
  fits = λ t shards fits. fits_drawn t shards w at moment (number + 1) w.timestamp refl fits begun when
      (omega arith, subst (λ k. k ≤ MUTATION_LIMIT) (number_is w at moment (number + 1)) (is_few segment (mutation_of w at moment (number + 1)) none))
      (low_of w at moment (number + 1) (is_low segment (mutation_of w at moment (number + 1)) none));
}

-- ---- answers

pub taken_ok : (o : Option ℕ) (w m : Mutation) → Ok m ≡ taken_unless o w → (o ≡ None) × (m ≡ w)
taken_ok None w m e = (refl, cc)
taken_ok (Some n) w m e = cc

-- what was answered Ok is the write's mutation, which isn't refused
answered_ok : (segment : ℕ) (w m : Mutation) → Answered segment w (Ok m) → (take_refusal segment w ≡ None) × (m ≡ w)
answered_ok segment w m a = taken_ok (take_refusal segment w) w m (a refl)

pub is_prepared : (segment : ℕ) (w : BoundWrite) (drawn moment : ℤ) (m : Mutation) (r : Result Mutation TakeFault) (y : ShardState) → m ≡ mutation_of w drawn moment (y.number + 1) → Answered segment m r
    → IfOk r (λ k. HasRoom k y.stores) → IfOk r (λ k. IsPrepared y k)
is_prepared segment w drawn moment m (Ok k) y e a room =
    let is : (take_refusal segment m ≡ None) × (k ≡ m) = answered_ok segment m k a in
    record {
      room = room;
      next = ap (λ x. x.number) (is.1 ∙ e) ∙ number_is w drawn moment (y.number + 1);
      few = subst (λ x. x.number ≤ MUTATION_LIMIT) (sym is.1) (is_few segment m is.0);
      low = subst (λ x. x.drawn ≡ true → x.at ≤ℤ LAST_DRAWN) (sym is.1) (is_low segment m is.0);
    }
is_prepared segment w drawn moment m (Err fault) y e a room = tt

pub is_ready : (segment : ℕ) (w : BoundWrite) (reading drawn moment : ℤ) (number : ℕ) (m : Mutation) (r : Result Mutation TakeFault) → IsTime reading → IsMoment moment
    → m ≡ mutation_of w (later_drawn reading drawn) moment (number + 1) → Answered segment m r → IfOk r (λ k. IsReady segment w k)
is_ready segment w reading drawn moment number m (Ok k) time when e a =
    let is : (take_refusal segment m ≡ None) × (k ≡ m) = answered_ok segment m k a in
    subst (IsReady segment w) (sym (is.1 ∙ e)) (made_ready segment w (later_drawn reading drawn) moment number (is_begun reading drawn time) when (subst (λ x. take_refusal segment x ≡ None) e is.0))
is_ready segment w reading drawn moment number m (Err fault) time when e a = tt

-- the mutation of a write that its table can take belongs to the table, unless it is refused
pub ready_belongs : (tables : List TableSchema) (shards segment : ℕ) (w : BoundWrite) (m : Mutation) → Suits tables shards w → IsReady segment w m → Belongs tables shards m
ready_belongs tables shards segment w m suits ready = (suits.0, ap (λ n. slice_get tables n) ready.table ∙ suits.1, ready.fits suits.0 shards suits.2)

pub unrefused_belongs : (tables : List TableSchema) (shards segment : ℕ) (w : BoundWrite) (reading drawn moment : ℤ) (number : ℕ) (m : Mutation) → Suits tables shards w → IsTime reading → IsMoment moment
    → m ≡ mutation_of w (later_drawn reading drawn) moment (number + 1) → take_refusal segment m ≡ None → Belongs tables shards m
unrefused_belongs tables shards segment w reading drawn moment number m suits time when e none =
    ready_belongs tables shards segment w m suits
    (subst (IsReady segment w) (sym e) (made_ready segment w (later_drawn reading drawn) moment number (is_begun reading drawn time) when (subst (λ x. take_refusal segment x ≡ None) e none)))
