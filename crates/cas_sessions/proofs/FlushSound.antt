-- An open store is sound where a shard's table got a file.
use Rattle.std.proofs.Common.{◌≡◌, ◌≢◌, ◌⊎◌, inl, inr, ◌<◌, ◌≤◌, ◌+◌, ℕ, zero, suc, List, [], ◌∷◌, ◌++◌, length, map, Some, sym, ap, ◌∙◌, subst, arith}
use Rattle.std.proofs.Math.Logic.{∥∥₁_map}
use Rattle.std.specs.Prelude.{slice_get, slice_set}
use Rattle.std.specs.List.{All}
use Rattle.std.proofs.lemmas.List.Elements.{All-get_or}
use Rattle.std.proofs.lemmas.Option.{get_or_from_slice_get, same_Some, slice_get_within}
use Rattle.cas_types.specs.Limits.{IsNarrow}
use Rattle.cas_types.specs.declared.schema.TableSchema.{TableSchema}
use Rattle.cas_bounds.specs.ClusteringOrder.{clustering_order}
use Rattle.cas_bounds.specs.declared.cuts.Slice.{Slice}
use Rattle.cas_atoms.specs.declared.atom.Mutation.{Mutation}
use Rattle.cas_bind.specs.Tables.{AreInPlace}
use Rattle.cas_bind.specs.declared.bound.Limits.{Limits}
use Rattle.cas_changes.specs.declared.entry.Change.{Change}
use Rattle.cas_changes.specs.declared.entry.Entry.TheVariants as entry
use Rattle.cas_index.specs.Searches.{IsSliceOf}
use Rattle.cas_info.specs.declared.info.TableInfo.{TableInfo}
use Rattle.cas_shard.specs.Flushing.{HasInMemory}
use Rattle.cas_shard.specs.Stands.{ShardState, files_at}
use Rattle.cas_sstread.specs.Loading.{Held}
use Rattle.cas_stored.specs.Reading.{AreReadIn, IsReadIn}
use Rattle.cas_view.specs.Views.{File}
use Rattle.cas_recovery.specs.Restored.{HaveMemory, HaveNoMore, MayBeRead}
use Rattle.cas_recovery.proofs.Places.{get_here, get_other, map_set_same, same_place}
use Rattle.cas_sessions.specs.Inner.Flushing.{NewFile}
use Rattle.cas_lasting.specs.Inner.Sound.{IsSound}
use Rattle.cas_sessions.proofs.FlushShard.{Swapped}

-- ---- a shard in another state

-- what is so of each shard is so again, where it is of this one
one_so : (P : ℕ → ShardState → Type 0) (xs : List ShardState) (n : ℕ) (x y : ShardState) → ((k : ℕ) (z : ShardState) → slice_get xs k ≡ Some z → P k z)
    → slice_get xs n ≡ Some x → P n y → (k : ℕ) (z : ShardState) → slice_get (slice_set xs n y) k ≡ Some z → P k z
one_so P xs n x y all there one k z got = by (same_place k n)
  where
    by : (k ≡ n) ⊎ (k ≢ n) → P k z
    by (inl here) =
        let at_k : slice_get (slice_set xs n y) k ≡ Some y = ap (λ (j : ℕ). slice_get (slice_set xs n y) j) here ∙ get_here xs n x y there in
        let same : y ≡ z = same_Some y z (sym at_k ∙ got) in
        subst (λ (j : ℕ). P j z) (sym here) (subst (λ (w : ShardState). P n w) same one)
    by (inr other) = all k z (sym (get_other xs n k y other) ∙ got)

-- a shard's memory of each table
abbrev pub RemembersEach : List TableSchema → ShardState → ℕ → Type 0
RemembersEach ts x table = (ws : List Mutation) × ((more : List TableSchema) → HasInMemory (ts ++ more) table ws x)

pub still_remembers : (ts : List TableSchema) (xs : List ShardState) (n : ℕ) (x y : ShardState) → HaveMemory ts xs → slice_get xs n ≡ Some x
    → ((table : ℕ) → RemembersEach ts x table → RemembersEach ts y table) → HaveMemory ts (slice_set xs n y)
still_remembers ts xs n x y kept there has k table z got =
    one_so (λ j w. (i : ℕ) → ∥ (RemembersEach ts w i) ∥₁) xs n x y (λ j w at i. kept j i w at) there (λ i. ∥∥₁_map (kept n i x there) (has i)) k z got table

-- ---- a table with one file more

read_more : (s : Slice) (fs : List (File Held)) (f : File Held) → AreReadIn s fs → IsReadIn s f → AreReadIn s (fs ++ f ∷ [])
read_more s [] f all one = (one, tt)
read_more s (g ∷ fs) f all one = (all.0, read_more s fs f all.1 one)

-- the table of that number, where each stands in its place
pub numbered : (k : ℕ) (ts : List TableSchema) (n : ℕ) (t : TableSchema) → AreInPlace k ts → slice_get ts n ≡ Some t → t.number ≡ k + n
numbered k [] n t places there = absurd cc
numbered k (u ∷ ts) zero t places there = (let same : u ≡ t = same_Some u t there in ap (λ (v : TableSchema). v.number) (sym same) ∙ places.0 ∙ omega arith)
numbered k (u ∷ ts) (suc n) t places there = numbered (k + 1) ts n t places.1 there ∙ omega arith

module _ (ts : List TableSchema) (xs : List ShardState) (n count : ℕ) (x y : ShardState) (t : TableSchema) (files : List (File Held)) (told : TableInfo)
    (table : slice_get ts t.number ≡ Some t) (narrow : IsNarrow t.columns) (there : slice_get xs n ≡ Some x) (new : NewFile t (slice_get x.stores t.number) told files)
    (swapped : Swapped t.number count files x y) where
  other_files : (k : ℕ) → k ≢ t.number → files_at (slice_get y.stores k) ≡ files_at (slice_get x.stores k)
  other_files k other = ap files_at (swapped.others k other)

  pub readable_flushed : MayBeRead ts xs → MayBeRead ts (slice_set xs n y)
  readable_flushed are k z got =
      one_so (λ j w. (i : ℕ) (u : TableSchema) → slice_get ts i ≡ Some u → (s : Slice) → IsSliceOf (clustering_order u.columns) s → AreReadIn s (files_at (slice_get w.stores i)))
      xs n x y are there (λ i u at s slice. by i u at s slice (same_place i t.number)) k z got
    where
      by : (i : ℕ) (u : TableSchema) → slice_get ts i ≡ Some u → (s : Slice) → IsSliceOf (clustering_order u.columns) s → (i ≡ t.number) ⊎ (i ≢ t.number)
          → AreReadIn s (files_at (slice_get y.stores i))
      by i u at s slice (inl here) =
          let same : u ≡ t = same_Some u t (sym at ∙ ap (λ (j : ℕ). slice_get ts j) here ∙ table) in
          let its : IsSliceOf (clustering_order t.columns) s = subst (λ (v : TableSchema). IsSliceOf (clustering_order v.columns) s) same slice in
          let was : AreReadIn s (files_at (slice_get x.stores t.number)) = are n x there t.number t table s its in
          let one : IsReadIn s new.file = record {
            narrow = subst (λ cs. IsNarrow cs) (sym new.columns) narrow;
            slice = subst (λ cs. IsSliceOf (clustering_order cs) s) (sym new.columns) its;
          } in
          subst (λ (j : ℕ). AreReadIn s (files_at (slice_get y.stores j))) (sym here)
          (subst (AreReadIn s) (sym (swapped.files_are ∙ new.are)) (read_more s (files_at (slice_get x.stores t.number)) new.file was one))
      by i u at s slice (inr other) = subst (AreReadIn s) (sym (other_files i other)) (are n x there i u at s slice)

  pub unmade_flushed : t.number < length ts → HaveNoMore ts xs → HaveNoMore ts (slice_set xs n y)
  unmade_flushed low none k z got =
      one_so (λ j w. (i : ℕ) → length ts ≤ i → length (files_at (slice_get w.stores i)) ≡ 0) xs n x y none there
      (λ i high. ap length (other_files i (λ same. absurd (omega (arith, same, low, high)))) ∙ none n x there i high) k z got

-- ---- seats

-- a seat got an entry more, and has its shard and its number
pub sound_listed : {X : Type 0} (place count : X → ℕ) (l : Limits) (ts : List TableSchema) (xs : List ShardState) (a b n : ℕ) (fs : List X) (f g : X)
    → IsSound l ts xs (map place fs) (map count fs) a → slice_get fs n ≡ Some f → place g ≡ place f → count g ≡ count f → b ≡ a
    → IsSound l ts xs (map place (slice_set fs n g)) (map count (slice_set fs n g)) b
sound_listed place count l ts xs a b n fs f g sound at same_place same_number size = record {
  tables = sound.tables;
  count = sound.count;
  some = sound.some;
  size = (size ∙ sound.size.0, sound.size.1);
  places = map_set_same place fs n f g at same_place ∙ sound.places;
  numbers = map_set_same count fs n f g at same_number ∙ sound.numbers;
}

pub seated_again : {X : Type 0} (place : X → ℕ) (fs : List X) (n : ℕ) (f g : X) (ns : List ℕ) → slice_get fs n ≡ Some f → place g ≡ place f → map place fs ≡ ns
    → map place (slice_set fs n g) ≡ ns
seated_again place fs n f g ns at same are = map_set_same place fs n f g at same ∙ are

pub same_change : (a b : Change) → entry.Change a ≡ entry.Change b → a ≡ b
same_change a b is = cc

pub all_at : {X : Type 0} (P : X → Type 0) (xs : List X) (n : ℕ) (x : X) → All P xs → slice_get xs n ≡ Some x → P x
all_at P xs n x all there = subst P (get_or_from_slice_get xs n x x there) (All-get_or P xs n x (slice_get_within xs n x there) all)
