-- What the tables of a shard have in memory after a call on one of them.
use Rattle.std.proofs.Common.{◌≡◌, ◌≢◌, ◌⊎◌, inl, inr, ◌<◌, ◌==◌, ℕ, zero, suc, Bool, true, false, if◌then◌else◌, Option, None, Some, IfSome, List, [], ◌∷◌, ◌++◌, length, refl, sym, ap, ◌∙◌, subst, arith, append-nil}
use Rattle.std.proofs.lemmas.Bool.Decides.{nat_tests}
use Rattle.std.specs.Prelude.{slice_get, slice_set}
use Rattle.std.proofs.lemmas.List.Elements.{recursion_from_All}
use Rattle.cas_types.specs.declared.schema.Column.{Column}
use Rattle.cas_types.specs.declared.schema.TableSchema.{TableSchema}
use Rattle.cas_atoms.specs.Fits.{Fits}
use Rattle.cas_atoms.specs.declared.atom.Mutation.{Mutation}
use Rattle.cas_bounds.specs.ClusteringOrder.{clustering_order}
use Rattle.cas_memtable.specs.Kept.{HoldJust, MayHold, StandInEach, all_of, bytes_of, memtables_of}
use Rattle.cas_memtable.specs.Memtables.{bytes_with}
use Rattle.cas_stored.specs.Stored.{StoredTable}
use Rattle.cas_shard.specs.Flushing.{bytes_at, memtables_at, one_of}
use Rattle.cas_shard.specs.Shards.{take_refusal}
use Rattle.cas_shard.specs.Stands.{Belongs}
use Rattle.cas_shard.specs.Inner.Stores.{JoinsRoom, KeepBytes, MakesRoom, MemoryStays}
use Rattle.cas_shard.proofs.Memory.{at_apart, at_set, same_number, set_keeps}

-- ---- one table

-- a table that has nothing stored has nothing in memory
none_in_memory : (columns : List Column) (ws : List Mutation) → HoldJust columns [] ws → [] ≡ ws
none_in_memory columns ws just = by just.places just.held.stand just.all
  where
    by : (wss : List (List Mutation)) → StandInEach (clustering_order columns) [] wss → all_of wss ≡ ws → [] ≡ ws
    by [] stand all = all
    by (vs ∷ wss) stand all = absurd stand

pub nothing_in_memory : (columns : List Column) → HoldJust columns [] []
nothing_in_memory columns = record { places = []; held = record { stand = tt; of = tt; may = tt }; all = refl }

pushed_memory : (ps : List StoredTable) (p : StoredTable) → ((columns : List Column) → HoldJust columns (memtables_of p.parts) []) → MemoryStays ps (ps ++ p ∷ [])
pushed_memory [] p new zero columns ws just = subst (HoldJust columns (memtables_of p.parts)) (none_in_memory columns ws just) (new columns)
pushed_memory [] p new (suc t) columns ws just = just
pushed_memory (q ∷ ps) p new zero columns ws just = just
pushed_memory (q ∷ ps) p new (suc t) columns ws just = pushed_memory ps p new t columns ws just

pub pushed_too : (start ps qs : List StoredTable) (p : StoredTable) → MemoryStays start ps → ((columns : List Column) → HoldJust columns (memtables_of p.parts) []) → qs ≡ ps ++ p ∷ []
    → MemoryStays start qs
pushed_too start ps qs p stay new is t columns ws just =
    subst (λ l. HoldJust columns (memtables_at (slice_get l t)) ws) (sym is) (pushed_memory ps p new t columns ws (stay t columns ws just))

module _ (ps mid qs : List StoredTable) (n : ℕ) (p q : StoredTable) (stay : MemoryStays ps mid) (there : n < length mid) (is : slice_get mid n ≡ Some p)
    (set : qs ≡ slice_set mid n q) where
  -- the table has in memory what it had, if it may hold what is asked for
  pub stays_if : (May : List Column → Type 0) → ((columns : List Column) (ws : List Mutation) → HoldJust columns (memtables_of p.parts) ws → May columns → HoldJust columns (memtables_of q.parts) ws)
      → (t : ℕ) (columns : List Column) (ws : List Mutation) → (t ≡ n → May columns) → HoldJust columns (memtables_at (slice_get ps t)) ws
      → HoldJust columns (memtables_at (slice_get qs t)) ws
  stays_if May own t columns ws may just =
      subst (λ l. HoldJust columns (memtables_at (slice_get l t)) ws) (sym set)
      (set_keeps mid n p q there is (λ o. HoldJust columns (memtables_at o) ws) t (λ e k. own columns ws k (may e)) (stay t columns ws just))

  pub stays_too : ((columns : List Column) (ws : List Mutation) → HoldJust columns (memtables_of p.parts) ws → HoldJust columns (memtables_of q.parts) ws) → MemoryStays ps qs
  stays_too own t columns ws just = stays_if (λ columns. Unit {0}) (λ columns ws k may. own columns ws k) t columns ws (λ e. tt) just

  pub same_parts : q.parts ≡ p.parts → MemoryStays ps qs
  same_parts same = stays_too (λ columns ws k. subst (λ parts. HoldJust columns (memtables_of parts) ws) (sym same) k)

  pub bytes_of_it : q.parts.active.bytes ≡ 0 → bytes_at (slice_get qs n) ≡ 0
  bytes_of_it none = ap (λ l. bytes_at (slice_get l n)) set ∙ ap bytes_at (at_set mid n q there) ∙ none

pub joined_memory : (w : Mutation) (ps qs : List StoredTable) (p q : StoredTable) → w.table < length ps → slice_get ps w.table ≡ Some p → qs ≡ slice_set ps w.table q
    → ((columns : List Column) (ws : List Mutation) → HoldJust columns (memtables_of p.parts) ws → MayHold columns w → HoldJust columns (memtables_of q.parts) (ws ++ w ∷ []))
    → (columns : List Column) (ws : List Mutation) → MayHold columns w → HoldJust columns (memtables_at (slice_get ps w.table)) ws
    → HoldJust columns (memtables_at (slice_get qs w.table)) (ws ++ w ∷ [])
joined_memory w ps qs p q there is set own columns ws may just =
    subst (λ o. HoldJust columns (memtables_at o) (ws ++ w ∷ [])) (sym (ap (λ l. slice_get l w.table) set ∙ at_set ps w.table q there))
    (own columns ws (subst (λ o. HoldJust columns (memtables_at o) ws) is just) may)

-- ---- a shard

-- a mutation that belongs to a table is one that it may hold
may_hold : (tables : List TableSchema) (shards : ℕ) (w : Mutation) (n : ℕ) (t : TableSchema) → Belongs tables shards w → slice_get tables n ≡ Some t → n ≡ w.table → MayHold t.columns w
may_hold tables shards w n t is at same =
    let both : Some is.0 ≡ Some t = sym is.1 ∙ ap (slice_get tables) (sym same) ∙ at in
    let own : is.0 ≡ t = cc in
    subst (λ u. MayHold u.columns w) own (is.2.key, recursion_from_All (Fits is.0.columns) w.atoms is.2.atoms)

-- what is in memory of a table, by what the tables have stored
abbrev pub InStores : List TableSchema → ℕ → List Mutation → List StoredTable → Type 0
InStores tables n ws stores = (t : TableSchema) → slice_get tables n ≡ Some t → HoldJust t.columns (memtables_at (slice_get stores n)) ws

pub same_stores : (tables : List TableSchema) (n : ℕ) (ws : List Mutation) (ps qs : List StoredTable) → qs ≡ ps → InStores tables n ws ps → InStores tables n ws qs
same_stores tables n ws ps qs same h t at = subst (λ stores. HoldJust t.columns (memtables_at (slice_get stores n)) ws) (sym same) (h t at)

module _ (tables : List TableSchema) (shards n : ℕ) (ws : List Mutation) (w : Mutation) where
  pub room_memory : (ps qs : List StoredTable) → Belongs tables shards w → MakesRoom w ps qs → InStores tables n ws ps → InStores tables n ws qs
  room_memory ps qs is makes h t at = makes.memory n t.columns ws (may_hold tables shards w n t is at) (h t at)

  -- unless it was refused
  pub room_memory_unless : (segment : ℕ) (ps qs : List StoredTable) → (take_refusal segment w ≡ None → Belongs tables shards w) → MakesRoom w ps qs
      → IfSome (take_refusal segment w) (λ k. qs ≡ ps) → InStores tables n ws ps → InStores tables n ws qs
  room_memory_unless segment ps qs belongs makes same h = by (take_refusal segment w) refl same
    where
      by : (o : Option ℕ) → take_refusal segment w ≡ o → IfSome o (λ k. qs ≡ ps) → InStores tables n ws qs
      by None e p = room_memory ps qs (belongs e) makes h
      by (Some k) e p = same_stores tables n ws ps qs p h

  is_own : n ≡ w.table → (w.table == n) ≡ true
  is_own e = grind (arith, nat_tests, e)

  is_other : n ≢ w.table → (w.table == n) ≡ false
  is_other h = grind (arith, nat_tests, h)

  pub join_memory : (ps qs : List StoredTable) → Belongs tables shards w → JoinsRoom w ps qs → InStores tables n ws ps → InStores tables n (ws ++ one_of n w) qs
  join_memory ps qs is joins h t at = by (same_number n w.table)
    where
      by : (n ≡ w.table) ⊎ (n ≢ w.table) → HoldJust t.columns (memtables_at (slice_get qs n)) (ws ++ one_of n w)
      by (inl e) =
          subst (λ (b : Bool). HoldJust t.columns (memtables_at (slice_get qs n)) (ws ++ (if b then w ∷ [] else []))) (sym (is_own e))
          (subst (λ k. HoldJust t.columns (memtables_at (slice_get qs k)) (ws ++ w ∷ [])) (sym e)
          (joins.memory t.columns ws (may_hold tables shards w n t is at e) (subst (λ k. HoldJust t.columns (memtables_at (slice_get ps k)) ws) e (h t at))))
      by (inr apart) =
          subst (λ (b : Bool). HoldJust t.columns (memtables_at (slice_get qs n)) (ws ++ (if b then w ∷ [] else []))) (sym (is_other apart))
          (subst (HoldJust t.columns (memtables_at (slice_get qs n))) (sym (append-nil ws))
          (subst (λ o. HoldJust t.columns (memtables_at o) ws) (sym (joins.others n apart)) (h t at)))

-- ---- bytes

-- a table more has something stored, of which no memtable has bytes
pushed_bytes : (ps : List StoredTable) (p : StoredTable) → p.parts.active.bytes ≡ 0 → KeepBytes ps (ps ++ p ∷ [])
pushed_bytes [] p none zero = none
pushed_bytes [] p none (suc t) = refl
pushed_bytes (q ∷ ps) p none zero = refl
pushed_bytes (q ∷ ps) p none (suc t) = pushed_bytes ps p none t

pub bytes_pushed : (start ps qs : List StoredTable) (p : StoredTable) → KeepBytes start ps → p.parts.active.bytes ≡ 0 → qs ≡ ps ++ p ∷ [] → KeepBytes start qs
bytes_pushed start ps qs p keep none is t = ap (λ l. bytes_at (slice_get l t)) is ∙ pushed_bytes ps p none t ∙ keep t

-- what one table has stored changed
module _ (ps qs : List StoredTable) (n : ℕ) (p q : StoredTable) (there : n < length ps) (is : slice_get ps n ≡ Some p) (set : qs ≡ slice_set ps n q) where
  bytes_here : bytes_at (slice_get qs n) ≡ q.parts.active.bytes
  bytes_here = ap (λ l. bytes_at (slice_get l n)) set ∙ ap bytes_at (at_set ps n q there)

  pub bytes_kept : q.parts.active.bytes ≡ p.parts.active.bytes → KeepBytes ps qs
  bytes_kept same t = by (same_number t n)
    where
      by : (t ≡ n) ⊎ (t ≢ n) → bytes_at (slice_get qs t) ≡ bytes_at (slice_get ps t)
      by (inl e) = ap (λ k. bytes_at (slice_get qs k)) e ∙ bytes_here ∙ same ∙ sym (ap (λ k. bytes_at (slice_get ps k)) e ∙ ap bytes_at is)
      by (inr apart) = ap (λ l. bytes_at (slice_get l t)) set ∙ ap bytes_at (at_apart ps n q t apart)

  pub bytes_grown : (w : Mutation) → q.parts.active.bytes ≡ bytes_with p.parts.active.bytes w → bytes_at (slice_get qs n) ≡ bytes_with (bytes_at (slice_get ps n)) w
  bytes_grown w grown = bytes_here ∙ grown ∙ sym (ap (λ o. bytes_with (bytes_at o) w) is)

-- and what was there before, too
pub bytes_then : (ps mid qs : List StoredTable) → KeepBytes ps mid → KeepBytes mid qs → KeepBytes ps qs
bytes_then ps mid qs first next t = next t ∙ first t

of_it : (n : ℕ) (w : Mutation) → n ≡ w.table → (w.table == n) ≡ true
of_it n w e = grind (arith, nat_tests, e)

of_another : (n : ℕ) (w : Mutation) → n ≢ w.table → (w.table == n) ≡ false
of_another n w h = grind (arith, nat_tests, h)

-- with a mutation more
pub bytes_joined : (w : Mutation) (ps qs : List StoredTable) → JoinsRoom w ps qs → (n : ℕ) → bytes_at (slice_get qs n) ≡ bytes_of (bytes_at (slice_get ps n)) (one_of n w)
bytes_joined w ps qs joins n = by (same_number n w.table)
  where
    by : (n ≡ w.table) ⊎ (n ≢ w.table) → bytes_at (slice_get qs n) ≡ bytes_of (bytes_at (slice_get ps n)) (one_of n w)
    by (inl e) =
        ap (λ k. bytes_at (slice_get qs k)) e ∙ joins.bytes ∙ ap (λ k. bytes_with (bytes_at (slice_get ps k)) w) (sym e)
        ∙ ap (λ (b : Bool). bytes_of (bytes_at (slice_get ps n)) (if b then w ∷ [] else [])) (sym (of_it n w e))
    by (inr apart) =
        ap bytes_at (joins.others n apart) ∙ ap (λ (b : Bool). bytes_of (bytes_at (slice_get ps n)) (if b then w ∷ [] else [])) (sym (of_another n w apart))
