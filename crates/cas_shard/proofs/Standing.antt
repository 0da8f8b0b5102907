-- A shard stands for its history after a write and after a SELECT.
use Rattle.std.proofs.Common.{◌≡◌, ◌≢◌, ◌⊎◌, inl, inr, ◌<◌, ◌≤◌, ◌+◌, ◌==◌, max, ℕ, zero, suc, ℤ, Bool, true, false, if◌then◌else◌, Option, None, Some, IfSome, Result, Ok, Err, List, [], ◌∷◌, ◌++◌, length, refl, sym, ap, ◌∙◌, subst, arith, append-nil}
use Rattle.std.proofs.lemmas.Bool.Decides.{nat_tests}
use Rattle.std.proofs.lemmas.Bool.{true≢false}
use Rattle.std.proofs.lemmas.Option.{slice_get_past, slice_get_within}
use Rattle.std.specs.Prelude.{slice_get}
use Rattle.std.proofs.lemmas.Grind.{flat_map-append}
use Rattle.std.specs.Int.{int_max}
use Rattle.cas_types.specs.declared.schema.TableSchema.{TableSchema}
use Rattle.cas_bounds.specs.declared.order.Ordered.{Ordered}
use Rattle.cas_atoms.specs.declared.atom.Mutation.{Mutation}
use Rattle.cas_effects.specs.AtomsOf.{mutation_of}
use Rattle.cas_effects.specs.declared.effect.BoundWrite.{BoundWrite}
use Rattle.cas_partition.specs.Partitions.{AreAtomsOf}
use Rattle.cas_shard.specs.declared.entry.Entry.{Entry}
use Rattle.cas_shard.specs.declared.entry.Entry.TheVariants.{Wrote}
use Rattle.cas_shard.specs.declared.entry.ShardOpening.{ShardOpening}
use Rattle.cas_shard.specs.Entries.{last_number}
use Rattle.cas_shard.proofs.Numbers.{drawn_of_none, last_of_none, last_drawn_more, last_number_more}
use Rattle.cas_shard.specs.Shards.{Prepares, ShardHistory, all_entries, drawn_with, entered, entry_unless, found_shard, later_drawn, later_moment, mutation_at, next_number, prepare_answer, raised, restored, take_refusal, taken_unless, told_shard, write_answer, write_entries}
use Rattle.cas_stored.specs.Stored.{StoredTable}
use Rattle.cas_shard.specs.Stands.{Belongs, Holds, ShardState, Stands, mutations_of, of_table, order_at}
use Rattle.cas_shard.specs.Inner.Stores.{AllStay, JoinsRoom, MakesRoom}
use Rattle.cas_shard.specs.Inner.Turns.{Answered, Took}
use Rattle.cas_shard.specs.declared.answers.TakeFault.{TakeFault}
use Rattle.cas_shard.specs.declared.answers.TakeFault.TheVariants as fault
use Rattle.cas_shard.proofs.Memory.{holds_at, same_number, say_alike}
use Rattle.cas_shard.proofs.Numbering.{all_joined, all_restored, one_entered, one_restored}
use Rattle.cas_shard.proofs.Preparing.{in_order, taken_ok}

-- ---- mutations of a table

own_table : (n : ℕ) → (n == n) ≡ true
own_table n = grind (arith, nat_tests)

not_table : (n t : ℕ) → t ≢ n → (n == t) ≡ false
not_table n t h = grind (arith, nat_tests, h)

module _ (w : Mutation) (session call : ℕ) where
  more_of : (t : ℕ) (all : List Entry) → mutations_of t (all ++ Wrote session call w ∷ []) ≡ mutations_of t all ++ of_table t (Wrote session call w)
  more_of t all = flat_map-append (of_table t) all (Wrote session call w ∷ []) ∙ ap (λ l. mutations_of t all ++ l) (append-nil (of_table t (Wrote session call w)))

  own_more : (all : List Entry) → mutations_of w.table all ++ w ∷ [] ≡ mutations_of w.table (all ++ Wrote session call w ∷ [])
  own_more all = sym (more_of w.table all ∙ ap (λ (b : Bool). mutations_of w.table all ++ (if b then w ∷ [] else [])) (own_table w.table))

  no_more : (t : ℕ) (all : List Entry) → t ≢ w.table → mutations_of t all ≡ mutations_of t (all ++ Wrote session call w ∷ [])
  no_more t all h =
      sym (more_of t all ∙ ap (λ (b : Bool). mutations_of t all ++ (if b then w ∷ [] else [])) (not_table w.table t h) ∙ append-nil (mutations_of t all))

-- ---- what is kept of all tables

module _ (tables : List TableSchema) (w : Mutation) (are : AreAtomsOf (order_at tables w.table) w.atoms) (all : List Entry) where
  abbrev Kept : List StoredTable → List Entry → Type 0
  Kept ps entries = (t : ℕ) → Holds (order_at tables t) (slice_get ps t) (mutations_of t entries)

  room_keeps : (ps qs : List StoredTable) → Kept ps all → MakesRoom w ps qs → Kept qs all
  room_keeps ps qs k makes t = makes.kept t (order_at tables t) (mutations_of t all) (λ e. subst (λ n. AreAtomsOf (order_at tables n) w.atoms) (sym e) are) (k t)

  join_keeps : (session call : ℕ) (ps qs : List StoredTable) → Kept ps all → JoinsRoom w ps qs → Kept qs (all ++ Wrote session call w ∷ [])
  join_keeps session call ps qs k joins t = by (same_number t w.table)
    where
      by : (t ≡ w.table) ⊎ (t ≢ w.table) → Holds (order_at tables t) (slice_get qs t) (mutations_of t (all ++ Wrote session call w ∷ []))
      by (inl e) =
          subst (λ n. Holds (order_at tables n) (slice_get qs n) (mutations_of n (all ++ Wrote session call w ∷ []))) (sym e)
          (subst (Holds (order_at tables w.table) (slice_get qs w.table)) (own_more w session call all) (joins.joined (order_at tables w.table) (mutations_of w.table all) are (k w.table)))
      by (inr h) =
          subst (Holds (order_at tables t) (slice_get qs t)) (no_more w session call t all h)
          (holds_at (order_at tables t) (mutations_of t all) (slice_get ps t) (slice_get qs t) (joins.others t h) (k t))

-- ---- shards

pub as_opened : (tables : List TableSchema) (number : ℕ) (drawn moment : ℤ) (x : ShardState) → x.stores ≡ [] → x.number ≡ number → x.drawn ≡ drawn → x.moment ≡ moment
    → Stands tables (found_shard (told_shard number drawn moment)) x
as_opened tables number drawn moment x p n d m = record {
  numbers = record { ascend = tt; found = subst (λ k. k ≤ number) (sym (last_of_none 0)) (omega arith); rise = tt };
  number = n ∙ sym (last_of_none number);
  drawn = d ∙ sym (drawn_of_none drawn);
  moment = m;
  kept = λ t. subst (λ ps. Holds (order_at tables t) (slice_get ps t) []) (sym p) (record { places = []; holds = refl; says = say_alike [] [] refl });
  few = subst (λ ps. length ps ≤ length tables) (sym p) (omega arith);
}

pub moment_raised : (tables : List TableSchema) (s : ShardHistory) (x y : ShardState) (reading : ℤ) → Stands tables s x → y.stores ≡ x.stores → y.number ≡ x.number → y.drawn ≡ x.drawn
    → y.moment ≡ later_moment reading x.moment → Stands tables (raised reading s) y
moment_raised tables s x y reading h p n d m = record {
  numbers = record { ascend = h.numbers.ascend; found = h.numbers.found; rise = h.numbers.rise };
  number = n ∙ h.number;
  drawn = d ∙ h.drawn;
  moment = m ∙ ap (later_moment reading) h.moment;
  kept = λ t. subst (λ ps. Holds (order_at tables t) (slice_get ps t) (mutations_of t (all_entries s))) (sym p) (h.kept t);
  few = subst (λ ps. length ps ≤ length tables) (sym p) h.few;
}

none_entered : (s : ShardHistory) → s ≡ entered [] s
none_entered s = ap (λ l. record s { entries = l }) (sym (append-nil s.entries))

as_none : (tables : List TableSchema) (s : ShardHistory) (y : ShardState) → Stands tables s y → Stands tables (entered [] s) y
as_none tables s y h = subst (λ z. Stands tables z y) (none_entered s) h

-- what says nothing yet changes nothing
pub room_made : (tables : List TableSchema) (shards : ℕ) (s : ShardHistory) (w : Mutation) (x y : ShardState) → Stands tables s x → Belongs tables shards w
    → y.number ≡ x.number → y.drawn ≡ x.drawn → y.moment ≡ x.moment → MakesRoom w x.stores y.stores → Stands tables s y
room_made tables shards s w x y h is n d m makes = record {
  numbers = h.numbers;
  number = n ∙ h.number;
  drawn = d ∙ h.drawn;
  moment = m ∙ h.moment;
  kept = room_keeps tables w (in_order tables shards w is) (all_entries s) x.stores y.stores h.kept makes;
  few = makes.few (length tables) h.few (slice_get_within tables w.table is.0 is.1);
}

-- a memtable was frozen
pub as_frozen : (tables : List TableSchema) (s : ShardHistory) (x y : ShardState) → Stands tables s x → AllStay x.stores y.stores → length y.stores ≡ length x.stores
    → y.number ≡ x.number → y.drawn ≡ x.drawn → y.moment ≡ x.moment → Stands tables s y
as_frozen tables s x y h stay count n d m = record {
  numbers = h.numbers;
  number = n ∙ h.number;
  drawn = d ∙ h.drawn;
  moment = m ∙ h.moment;
  kept = λ t. stay t (order_at tables t) (mutations_of t (all_entries s)) (h.kept t);
  few = subst (λ c. c ≤ length tables) (sym count) h.few;
}

-- ---- under other tables

below_or_past : (n m : ℕ) → (n < m) ⊎ (m ≤ n)
below_or_past n zero = inr (omega arith)
below_or_past zero (suc m) = inl (omega arith)
below_or_past (suc n) (suc m) = next (below_or_past n m)
  where
    next : (n < m) ⊎ (m ≤ n) → (suc n < suc m) ⊎ (suc m ≤ suc n)
    next (inl lt) = inl (omega (arith, lt))
    next (inr le) = inr (omega (arith, le))

-- under more tables, of which each that was there orders its rows as before
pub stands_under : (old new : List TableSchema) (s : ShardHistory) (x : ShardState) → length old ≤ length new → ((n : ℕ) → n < length old → order_at new n ≡ order_at old n)
    → Stands old s x → Stands new s x
stands_under old new s x more same stands = record {
  numbers = stands.numbers;
  number = stands.number;
  drawn = stands.drawn;
  moment = stands.moment;
  kept = λ n. by n (below_or_past n (length old));
  few = omega (arith, more, stands.few);
}
  where
    by : (n : ℕ) → (n < length old) ⊎ (length old ≤ n) → Holds (order_at new n) (slice_get x.stores n) (mutations_of n (all_entries s))
    by n (inl lt) = subst (λ (o : List Ordered). Holds o (slice_get x.stores n) (mutations_of n (all_entries s))) (sym (same n lt)) (stands.kept n)
    by n (inr le) =
        let none : slice_get x.stores n ≡ None = slice_get_past x.stores n (omega (arith, le, stands.few)) in
        let nothing : Holds (order_at old n) None (mutations_of n (all_entries s)) = holds_at (order_at old n) (mutations_of n (all_entries s)) (slice_get x.stores n) None (sym none) (stands.kept n) in
        holds_at (order_at new n) (mutations_of n (all_entries s)) None (slice_get x.stores n) none (record { places = nothing.places; holds = nothing.holds; says = nothing.says })

-- ---- entered

pub one_enters : (tables : List TableSchema) (shards : ℕ) (s : ShardHistory) (session call : ℕ) (w : Mutation) (x y : ShardState) → Stands tables s x → Belongs tables shards w → w.number ≡ x.number + 1
    → JoinsRoom w x.stores y.stores → y.number ≡ w.number → y.drawn ≡ (if w.drawn then w.at else x.drawn) → y.moment ≡ x.moment
    → Stands tables (entered (Wrote session call w ∷ []) s) y
one_enters tables shards s session call w x y h is next joins n d m = record {
  numbers = one_entered session call w s h.numbers (next ∙ ap (λ k. k + 1) h.number);
  number = n ∙ sym (last_number_more s.found.number s.entries (Wrote session call w));
  drawn = d ∙ ap (λ k. if w.drawn then w.at else k) h.drawn ∙ sym (last_drawn_more s.found.drawn s.entries (Wrote session call w));
  moment = m ∙ h.moment;
  kept = λ t. subst (λ l. Holds (order_at tables t) (slice_get y.stores t) (mutations_of t l)) (sym (all_joined s (Wrote session call w ∷ [])))
      (join_keeps tables w (in_order tables shards w is) (all_entries s) session call x.stores y.stores h.kept joins t);
  few = subst (λ c. c ≤ length tables) (sym joins.count) h.few;
}

-- ---- restored

pub one_is_restored : (tables : List TableSchema) (shards : ℕ) (o : ShardOpening) (w : Mutation) (ps : List StoredTable) (x y : ShardState) → Stands tables (found_shard o) x → Belongs tables shards w
    → last_number 0 o.entries < w.number → MakesRoom w x.stores ps → JoinsRoom w ps y.stores
    → y.number ≡ max x.number w.number → y.drawn ≡ drawn_with x.drawn w → y.moment ≡ int_max x.moment w.moment → Stands tables (found_shard (restored w o)) y
one_is_restored tables shards o w ps x y h is above makes joins n d m = record {
  numbers = one_restored w o h.numbers above;
  number = n ∙ ap (λ k. max k w.number) (h.number ∙ last_of_none o.number) ∙ sym (last_of_none (max o.number w.number));
  drawn = d ∙ ap (λ k. drawn_with k w) (h.drawn ∙ drawn_of_none o.drawn) ∙ sym (drawn_of_none (drawn_with o.drawn w));
  moment = m ∙ ap (λ k. int_max k w.moment) h.moment;
  kept = λ t. subst (λ l. Holds (order_at tables t) (slice_get y.stores t) (mutations_of t l)) (sym (all_restored o w))
      (join_keeps tables w order (all_entries (found_shard o)) 0 0 ps y.stores (room_keeps tables w order (all_entries (found_shard o)) x.stores ps h.kept makes) joins t);
  few = subst (λ c. c ≤ length tables) (sym joins.count) (makes.few (length tables) h.few (slice_get_within tables w.table is.0 is.1));
}
  where
    order : AreAtomsOf (order_at tables w.table) w.atoms
    order = in_order tables shards w is

-- ---- writes

made_at : (s : ShardHistory) (x : ShardState) (tables : List TableSchema) (reading : ℤ) (w : BoundWrite) (m : Mutation) → Stands tables s x
    → m ≡ mutation_of w (later_drawn reading x.drawn) (later_moment reading x.moment) (x.number + 1) → m ≡ mutation_at reading s w
unfolding mutation_at
made_at s x tables reading w m h e = e ∙ (λ i. mutation_of w (later_drawn reading (h.drawn i)) (later_moment reading (h.moment i)) (h.number i + 1))

pub prepares : (tables : List TableSchema) (segment : ℕ) (s : ShardHistory) (x : ShardState) (reading : ℤ) (w : BoundWrite) (m : Mutation) (r : Result Mutation TakeFault) → Stands tables s x
    → m ≡ mutation_of w (later_drawn reading x.drawn) (later_moment reading x.moment) (x.number + 1) → Answered segment m r → Prepares segment s reading w r
unfolding prepare_answer
prepares tables segment s x reading w m r h e a told = a told ∙ ap (λ k. taken_unless (take_refusal segment k) k) (made_at s x tables reading w m h e)

pub nothing_prepared : (segment : ℕ) (s : ShardHistory) (reading : ℤ) (w : BoundWrite) → Prepares segment s reading w (Err fault.Mem)
nothing_prepared segment s reading w told = absurd (true≢false told)

-- the places of a mutation were made, unless it was refused
pub stays : (tables : List TableSchema) (shards segment : ℕ) (s : ShardHistory) (w : Mutation) (x y : ShardState) → Stands tables s x → (take_refusal segment w ≡ None → Belongs tables shards w)
    → y.number ≡ x.number → y.drawn ≡ x.drawn → y.moment ≡ x.moment → MakesRoom w x.stores y.stores → IfSome (take_refusal segment w) (λ k. y.stores ≡ x.stores)
    → Stands tables s y
stays tables shards segment s w x y h belongs n d m makes same = by (take_refusal segment w) refl same
  where
    by : (o : Option ℕ) → take_refusal segment w ≡ o → IfSome o (λ k. y.stores ≡ x.stores) → Stands tables s y
    by None e p = room_made tables shards s w x y h (belongs e) n d m makes
    by (Some k) e p = record {
      numbers = h.numbers;
      number = n ∙ h.number;
      drawn = d ∙ h.drawn;
      moment = m ∙ h.moment;
      kept = λ t. subst (λ ps. Holds (order_at tables t) (slice_get ps t) (mutations_of t (all_entries s))) (sym p) (h.kept t);
      few = subst (λ ps. length ps ≤ length tables) (sym p) h.few;
    }

-- what is prepared is the write's mutation
pub prepared_is : (segment : ℕ) (s : ShardHistory) (reading : ℤ) (w : BoundWrite) (m : Mutation) → Prepares segment s reading w (Ok m) → m ≡ mutation_at reading s w
unfolding prepare_answer
prepared_is segment s reading w m prepared = (taken_ok (take_refusal segment (mutation_at reading s w)) (mutation_at reading s w) m (prepared refl)).1

number_at : (reading : ℤ) (s : ShardHistory) (w : BoundWrite) → (mutation_at reading s w).number ≡ next_number s
unfolding mutation_at mutation_of
number_at reading s w = refl

-- the two halves in a row
pub took : (tables : List TableSchema) (shards segment : ℕ) (s : ShardHistory) (reading : ℤ) (session call : ℕ) (w : BoundWrite) (m : Mutation) (y : ShardState) → Prepares segment s reading w (Ok m)
    → Stands tables (entered (Wrote session call m ∷ []) (raised reading s)) y → Took tables segment s reading session call w (Ok m.number) y
unfolding prepare_answer write_answer write_entries
took tables shards segment s reading session call w m y prepared h =
    let is : (take_refusal segment (mutation_at reading s w) ≡ None) × (m ≡ mutation_at reading s w) = taken_ok (take_refusal segment (mutation_at reading s w)) (mutation_at reading s w) m (prepared refl) in
    record {
      entries = Wrote session call m ∷ [];
      takes = record {
        answered = λ told. ap (λ k. Ok k) (ap (λ k. k.number) is.1 ∙ number_at reading s w) ∙ sym (ap (λ o. taken_unless o (next_number s)) is.0);
        entered = ap (λ k. Wrote session call k ∷ []) is.1 ∙ sym (ap (λ o. entry_unless o session call (mutation_at reading s w)) is.0);
      };
      stands = h;
    }

refused_is : (o : Option ℕ) (w : Mutation) (n : ℕ) → Err (fault.Refused n) ≡ taken_unless o w → o ≡ Some n
refused_is None w n e = cc
refused_is (Some k) w n e = cc

pub took_nothing : (tables : List TableSchema) (segment : ℕ) (s : ShardHistory) (reading : ℤ) (session call : ℕ) (w : BoundWrite) (f : TakeFault) (y : ShardState) → Prepares segment s reading w (Err f)
    → Stands tables (raised reading s) y → Took tables segment s reading session call w (Err f) y
unfolding prepare_answer write_answer write_entries
took_nothing tables segment s reading session call w (fault.Refused n) y prepared h =
    let is : take_refusal segment (mutation_at reading s w) ≡ Some n = refused_is (take_refusal segment (mutation_at reading s w)) (mutation_at reading s w) n (prepared refl) in
    record {
      entries = [];
      takes = record {
        answered = λ told. sym (ap (λ o. taken_unless o (next_number s)) is);
        entered = sym (ap (λ o. entry_unless o session call (mutation_at reading s w)) is);
      };
      stands = as_none tables (raised reading s) y h;
    }
took_nothing tables segment s reading session call w fault.Mem y prepared h = record {
  entries = [];
  takes = record { answered = λ told. absurd (true≢false told); entered = refl };
  stands = as_none tables (raised reading s) y h;
}
