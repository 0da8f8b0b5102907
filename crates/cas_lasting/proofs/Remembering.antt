-- What is in memory of a store, where its shards and its tables change.
use Rattle.std.proofs.Common.{◌≡◌, ◌≢◌, ◌⊎◌, inl, inr, ℕ, zero, suc, Bool, true, false, ◌==◌, List, [], ◌∷◌, ◌++◌, map, Some, refl, sym, ap, ◌∙◌, subst, append-nil, append_assoc}
use Rattle.std.proofs.Math.Logic.{∥∥₁_map}
use Rattle.std.specs.Prelude.{if◌then◌else◌, slice_get, slice_set}
use Rattle.std.proofs.lemmas.Grind.{flat_map-append}
use Rattle.std.proofs.lemmas.Option.{same_Some}
use Rattle.cas_types.specs.declared.schema.TableSchema.{TableSchema}
use Rattle.cas_atoms.specs.declared.atom.Mutation.{Mutation}
use Rattle.cas_bind.specs.Fitting.{BoundFits}
use Rattle.cas_bind.specs.Tables.{with_added}
use Rattle.cas_bind.specs.declared.bound.Bound.TheVariants as bound
use Rattle.cas_define.specs.declared.addition.Addition.{Addition}
use Rattle.cas_effects.specs.declared.effect.BoundWrite.{BoundWrite}
use Rattle.cas_flushing.specs.Laws.{IsWidened}
use Rattle.cas_flushing.proofs.Tables.{added_columns_stay}
use Rattle.cas_journal.proofs.Fitting.{NoKeys}
use Rattle.cas_memtable.specs.Kept.{HoldJust}
use Rattle.cas_shard.specs.Flushing.{HasInMemory, memtables_at, one_of}
use Rattle.cas_shard.specs.declared.entry.Entry.{Entry}
use Rattle.cas_shard.specs.declared.entry.Entry.TheVariants.{Wrote}
use Rattle.cas_shard.specs.declared.entry.ShardOpening.{ShardOpening}
use Rattle.cas_shard.specs.Shards.{restored}
use Rattle.cas_shard.specs.Stands.{Belongs, IsReady, ShardState, Suits, mutations_of, of_table}
use Rattle.cas_recovery.specs.Found.{found_in}
use Rattle.cas_recovery.specs.Restored.{HaveMemory, Remember, RememberAll, Remembers, RemembersJust}
use Rattle.cas_recovery.proofs.Founding.{one_more}
use Rattle.cas_recovery.proofs.Places.{get_here, get_other, is_other, is_same, same_place}
use Rattle.cas_recovery.proofs.Restoring.{get_first, one_has_memory}
use Rattle.cas_lasting.specs.History.{with_unflushed}
use Rattle.cas_lasting.specs.Nodes.{RememberJust}

-- ---- a shard in another state

-- where it has what it had, whatever that is, it has some again
pub each_remembers : (ts : List TableSchema) (x y : ShardState) → ((table : ℕ) (ws : List Mutation) → RemembersJust ts table ws x → RemembersJust ts table ws y) → (table : ℕ)
    → Remembers ts table x → Remembers ts table y
each_remembers ts x y keeps table k = (k.0, keeps table k.0 k.1)

-- the same with a mutation more
pub each_with : (ts : List TableSchema) (x y : ShardState) (m : Mutation)
    → ((table : ℕ) (ws : List Mutation) → RemembersJust ts table ws x → RemembersJust ts table (ws ++ one_of table m) y) → (table : ℕ) → Remembers ts table x → Remembers ts table y
each_with ts x y m keeps table k = (k.0 ++ one_of table m, keeps table k.0 k.1)

module _ (ts : List TableSchema) (x y : ShardState) where
  -- with the same memtables
  pub same_just : y.stores ≡ x.stores → (table : ℕ) (ws : List Mutation) → RemembersJust ts table ws x → RemembersJust ts table ws y
  same_just same table ws k = λ more t at. subst (λ ps. HoldJust t.columns (memtables_at (slice_get ps table)) ws) (sym same) (k more t at)

  -- prepared for a write
  pub prepared_just : (w : BoundWrite) (shards : ℕ) → BoundFits shards ts (bound.Write w)
      → ((tables : List TableSchema) (count table : ℕ) (ws : List Mutation) → Suits tables count w → HasInMemory tables table ws x → HasInMemory tables table ws y)
      → (table : ℕ) (ws : List Mutation) → RemembersJust ts table ws x → RemembersJust ts table ws y
  prepared_just w shards fits keeps table ws k =
      λ more. keeps (ts ++ more) shards table ws (fits.0, get_first ts more w.table fits.0 fits.1, fits.2) (k more)

  -- with the mutation of a write
  pub entered_just : (w : BoundWrite) (m : Mutation) (segment shards : ℕ) → BoundFits shards ts (bound.Write w) → IsReady segment w m
      → ((tables : List TableSchema) (count table : ℕ) (ws : List Mutation) → Belongs tables count m → HasInMemory tables table ws x
      → HasInMemory tables table (ws ++ one_of table m) y)
      → (table : ℕ) (ws : List Mutation) → RemembersJust ts table ws x → RemembersJust ts table (ws ++ one_of table m) y
  entered_just w m segment shards fits ready keeps table ws k =
      λ more. keeps (ts ++ more) shards table ws (
        fits.0,
        get_first ts more m.table fits.0 (subst (λ (j : ℕ). slice_get ts j ≡ Some fits.0) (sym ready.table) fits.1),
        ready.fits fits.0 shards fits.2,
      ) (k more)

module _ (ts : List TableSchema) (xs : List ShardState) (n : ℕ) (x y : ShardState) (kept : HaveMemory ts xs) (there : slice_get xs n ≡ Some x) where
  pub same_stores : y.stores ≡ x.stores → HaveMemory ts (slice_set xs n y)
  same_stores same = one_has_memory ts xs n x y kept there (each_remembers ts x y (same_just ts x y same))

  pub memory_prepared : (w : BoundWrite) (shards : ℕ) → BoundFits shards ts (bound.Write w)
      → ((tables : List TableSchema) (count table : ℕ) (ws : List Mutation) → Suits tables count w → HasInMemory tables table ws x → HasInMemory tables table ws y)
      → HaveMemory ts (slice_set xs n y)
  memory_prepared w shards fits keeps = one_has_memory ts xs n x y kept there (each_remembers ts x y (prepared_just ts x y w shards fits keeps))

  pub memory_entered : (w : BoundWrite) (m : Mutation) (segment shards : ℕ) → BoundFits shards ts (bound.Write w) → IsReady segment w m
      → ((tables : List TableSchema) (count table : ℕ) (ws : List Mutation) → Belongs tables count m → HasInMemory tables table ws x
      → HasInMemory tables table (ws ++ one_of table m) y)
      → HaveMemory ts (slice_set xs n y)
  memory_entered w m segment shards fits ready keeps = one_has_memory ts xs n x y kept there (each_with ts x y m (entered_just ts x y w m segment shards fits ready keeps))

-- what is remembered within a truncation too
pub have_memory : (ts : List TableSchema) (xs : List ShardState) → Remember ts xs → HaveMemory ts xs
have_memory ts xs kept n table x there = ∣ kept n table x there ∣₁

-- ---- just what stands in no table file

-- what is just that is something
pub some_of_just : (ts : List TableSchema) (ws : ℕ → ℕ → List Mutation) (xs : List ShardState) → RememberJust ts ws xs → Remember ts xs
some_of_just ts ws xs just n table x there = (ws n table, just n table x there)

-- of a shard that is another, which has what it had
pub just_still : (ts : List TableSchema) (ws : ℕ → ℕ → List Mutation) (xs : List ShardState) (n : ℕ) (x y : ShardState) → slice_get xs n ≡ Some x
    → ((table : ℕ) (vs : List Mutation) → RemembersJust ts table vs x → RemembersJust ts table vs y) → RememberJust ts ws xs → RememberJust ts ws (slice_set xs n y)
just_still ts ws xs n x y there keeps just k table z got = by (same_place k n)
  where
    by : (k ≡ n) ⊎ (k ≢ n) → RemembersJust ts table (ws k table) z
    by (inl here) =
        let at_k : slice_get (slice_set xs n y) k ≡ Some y = ap (λ (j : ℕ). slice_get (slice_set xs n y) j) here ∙ get_here xs n x y there in
        subst (λ (w : ShardState). RemembersJust ts table (ws k table) w) (same_Some y z (sym at_k ∙ got))
        (keeps table (ws k table) (just k table x (ap (slice_get xs) here ∙ there)))
    by (inr other) = just k table z (sym (get_other xs n k y other) ∙ got)

-- with entries of it behind
pub just_with : (ts : List TableSchema) (ws : ℕ → ℕ → List Mutation) (xs : List ShardState) (n : ℕ) (x y : ShardState) (new : List Entry) → slice_get xs n ≡ Some x
    → ((table : ℕ) (vs : List Mutation) → RemembersJust ts table vs x → RemembersJust ts table (vs ++ mutations_of table new) y) → RememberJust ts ws xs
    → RememberJust ts (with_unflushed n new ws) (slice_set xs n y)
just_with ts ws xs n x y new there keeps just k table z got = by (same_place k n)
  where
    by : (k ≡ n) ⊎ (k ≢ n) → RemembersJust ts table (if k == n then ws k table ++ mutations_of table new else ws k table) z
    by (inl here) =
        let at_k : slice_get (slice_set xs n y) k ≡ Some y = ap (λ (j : ℕ). slice_get (slice_set xs n y) j) here ∙ get_here xs n x y there in
        subst (λ (b : Bool). RemembersJust ts table (if b then ws k table ++ mutations_of table new else ws k table) z)
        (sym (ap (λ (j : ℕ). k == j) (sym here) ∙ is_same k))
        (subst (λ (w : ShardState). RemembersJust ts table (ws k table ++ mutations_of table new) w) (same_Some y z (sym at_k ∙ got))
        (keeps table (ws k table) (just k table x (ap (slice_get xs) here ∙ there))))
    by (inr other) =
        subst (λ (b : Bool). RemembersJust ts table (if b then ws k table ++ mutations_of table new else ws k table) z) (sym (is_other k n (λ e. other (sym e))))
        (just k table z (sym (get_other xs n k y other) ∙ got))

-- with none
pub with_none : (ts : List TableSchema) (x y : ShardState) → ((table : ℕ) (vs : List Mutation) → RemembersJust ts table vs x → RemembersJust ts table vs y)
    → (table : ℕ) (vs : List Mutation) → RemembersJust ts table vs x → RemembersJust ts table (vs ++ mutations_of table []) y
with_none ts x y keeps table vs has = subst (λ us. RemembersJust ts table us y) (sym (append-nil vs)) (keeps table vs has)

-- with the entry of a mutation
pub with_entry : (ts : List TableSchema) (x y : ShardState) (m : Mutation) (session calls : ℕ)
    → ((table : ℕ) (vs : List Mutation) → RemembersJust ts table vs x → RemembersJust ts table (vs ++ one_of table m) y)
    → (table : ℕ) (vs : List Mutation) → RemembersJust ts table vs x → RemembersJust ts table (vs ++ mutations_of table (Wrote session calls m ∷ [])) y
with_entry ts x y m session calls keeps table vs has =
    subst (λ us. RemembersJust ts table (vs ++ us) y) (sym (append-nil (one_of table m))) (keeps table vs has)

-- ---- just what the log has

-- what it has of each table in each shard
abbrev pub in_log : List Mutation → ℕ → ℕ → List Mutation
in_log ms n table = mutations_of table (found_in n ms).entries

-- of a shard that is another, which has what it had
pub all_still : (ts : List TableSchema) (xs : List ShardState) (n : ℕ) (x y : ShardState) (ms : List Mutation) → slice_get xs n ≡ Some x
    → ((table : ℕ) (ws : List Mutation) → RemembersJust ts table ws x → RemembersJust ts table ws y) → RememberAll ts ms xs → RememberAll ts ms (slice_set xs n y)
all_still ts xs n x y ms there keeps have = just_still ts (in_log ms) xs n x y there keeps have

-- and which has a mutation more, as the log has
pub all_entered : (ts : List TableSchema) (xs : List ShardState) (n : ℕ) (x y : ShardState) (ms : List Mutation) (m : Mutation) → slice_get xs n ≡ Some x → m.shard ≡ n
    → ((table : ℕ) (ws : List Mutation) → RemembersJust ts table ws x → RemembersJust ts table (ws ++ one_of table m) y) → RememberAll ts ms xs
    → RememberAll ts (ms ++ m ∷ []) (slice_set xs n y)
all_entered ts xs n x y ms m there of_it keeps have k table z got = by (same_place k n)
  where
    more : (b : Bool) → (m.shard == k) ≡ b → mutations_of table (found_in k (ms ++ m ∷ [])).entries
        ≡ mutations_of table (found_in k ms).entries ++ (if b then one_of table m else [])
    more true is =
        ap (λ (o : ShardOpening). mutations_of table o.entries) (one_more k ms m ∙ ap (λ (c : Bool). if c then restored m (found_in k ms) else found_in k ms) is)
        ∙ flat_map-append (of_table table) (found_in k ms).entries (Wrote 0 0 m ∷ []) ∙ ap (λ l. mutations_of table (found_in k ms).entries ++ l) (append-nil (one_of table m))
    more false is =
        ap (λ (o : ShardOpening). mutations_of table o.entries) (one_more k ms m ∙ ap (λ (c : Bool). if c then restored m (found_in k ms) else found_in k ms) is)
        ∙ sym (append-nil (mutations_of table (found_in k ms).entries))

    by : (k ≡ n) ⊎ (k ≢ n) → RemembersJust ts table (mutations_of table (found_in k (ms ++ m ∷ [])).entries) z
    by (inl here) =
        let at_k : slice_get (slice_set xs n y) k ≡ Some y = ap (λ (j : ℕ). slice_get (slice_set xs n y) j) here ∙ get_here xs n x y there in
        let same : y ≡ z = same_Some y z (sym at_k ∙ got) in
        let is : (m.shard == k) ≡ true = ap (λ j. m.shard == j) (here ∙ sym of_it) ∙ is_same m.shard in
        subst (λ ws. RemembersJust ts table ws z) (sym (more true is))
        (subst (λ (w : ShardState). RemembersJust ts table (mutations_of table (found_in k ms).entries ++ one_of table m) w) same
        (subst (λ (j : ℕ). RemembersJust ts table (mutations_of table (found_in j ms).entries ++ one_of table m) y) (sym here)
        (keeps table (mutations_of table (found_in n ms).entries) (have n table x there))))
    by (inr other) =
        subst (λ ws. RemembersJust ts table ws z) (sym (more false (is_other m.shard k (λ e. other (e ∙ of_it))) ∙ append-nil (mutations_of table (found_in k ms).entries)))
        (have k table z (sym (get_other xs n k y other) ∙ got))

-- some are just those
pub some_of_all : (ts : List TableSchema) (xs : List ShardState) (ms : List Mutation) → RememberAll ts ms xs → Remember ts xs
some_of_all ts xs ms have = some_of_just ts (in_log ms) xs have

-- ---- other tables

created_just : (ts : List TableSchema) (t : TableSchema) (table : ℕ) (ws : List Mutation) (x : ShardState) → RemembersJust ts table ws x → RemembersJust (ts ++ t ∷ []) table ws x
created_just ts t table ws x k = λ more. subst (λ (us : List TableSchema). HasInMemory us table ws x) (sym (append_assoc ts (t ∷ []) more)) (k (t ∷ more))

pub remember_created : (ts : List TableSchema) (ws : ℕ → ℕ → List Mutation) (xs : List ShardState) (t : TableSchema) → RememberJust ts ws xs → RememberJust (ts ++ t ∷ []) ws xs
remember_created ts ws xs t kept n table x there = created_just ts t table (ws n table) x (kept n table x there)

pub all_created : (ts : List TableSchema) (xs : List ShardState) (t : TableSchema) (ms : List Mutation) → RememberAll ts ms xs → RememberAll (ts ++ t ∷ []) ms xs
all_created ts xs t ms have = remember_created ts (in_log ms) xs t have

pub memory_created : (ts : List TableSchema) (xs : List ShardState) (t : TableSchema) → HaveMemory ts xs → HaveMemory (ts ++ t ∷ []) xs
memory_created ts xs t kept n table x there = ∥∥₁_map (kept n table x there) (λ k. (k.0, created_just ts t table k.0 x k.1))

module _ (a : Addition) (bare : NoKeys a.columns) where
  one_widened : (u t : TableSchema) (b : Bool) → (if b then record u { columns = u.columns ++ a.columns } else u) ≡ t → IsWidened (Some u) t
  one_widened u t true is = (u, a.columns, refl, ap (λ (v : TableSchema). v.columns) (sym is), bare)
  one_widened u t false is = (u, [], refl, ap (λ (v : TableSchema). v.columns) (sym is) ∙ sym (append-nil u.columns), tt)

  widened : (ts more : List TableSchema) (n : ℕ) (t : TableSchema) → slice_get (map (with_added a) ts ++ more) n ≡ Some t → IsWidened (slice_get (ts ++ more) n) t
  widened [] more n t is = (t, [], is, sym (append-nil t.columns), tt)
  widened (u ∷ ts) more zero t is = one_widened u t (u.number == a.table) (same_Some (with_added a u) t is)
  widened (u ∷ ts) more (suc n) t is = widened ts more n t is

  altered_just : (ts : List TableSchema) (table : ℕ) (ws : List Mutation) (x : ShardState) → RemembersJust ts table ws x → RemembersJust (map (with_added a) ts) table ws x
  altered_just ts table ws x k = λ more. added_columns_stay (ts ++ more) (map (with_added a) ts ++ more) table ws x (λ t is. widened ts more table t is) (k more)

  pub remember_altered : (ts : List TableSchema) (ws : ℕ → ℕ → List Mutation) (xs : List ShardState) → RememberJust ts ws xs → RememberJust (map (with_added a) ts) ws xs
  remember_altered ts ws xs kept n table x there = altered_just ts table (ws n table) x (kept n table x there)

  pub all_altered : (ts : List TableSchema) (xs : List ShardState) (ms : List Mutation) → RememberAll ts ms xs → RememberAll (map (with_added a) ts) ms xs
  all_altered ts xs ms have = remember_altered ts (in_log ms) xs have

  pub memory_altered : (ts : List TableSchema) (xs : List ShardState) → HaveMemory ts xs → HaveMemory (map (with_added a) ts) xs
  memory_altered ts xs kept n table x there = ∥∥₁_map (kept n table x there) (λ k. (k.0, altered_just ts table k.0 x k.1))
