-- A file as it is found, and behind those that are loaded.
use Rattle.std.proofs.Common.{◌≡◌, ◌+◌, ◌<◌, ℕ, suc, List, [], ◌∷◌, ◌++◌, Option, length, get_or, map, take, drop, drop-cons, take-append-drop, sym, ap, subst, ◌∙◌}
use Rattle.std.proofs.lemmas.List.{map-append, take_more}
use Rattle.std.specs.List.{AllByRecursion}
use Rattle.cas_types.specs.declared.schema.TableSchema.{TableSchema}
use Rattle.cas_bounds.specs.ClusteringOrder.{clustering_order}
use Rattle.cas_disk.specs.Disk.{Disk, During, Follows, Image, Same, bytes_of}
use Rattle.cas_disk.specs.declared.name.Name.TheVariants.{Table as table_name}
use Rattle.cas_disk.proofs.Moments.{reads_on}
use Rattle.cas_info.specs.declared.info.TableInfo.{TableInfo}
use Rattle.cas_sstread.specs.Reading.{loaded_at}
use Rattle.cas_sstread.specs.Loading.{Held, IsBadAt}
use Rattle.cas_view.specs.Views.{File, file_of, files_of}
use Rattle.cas_view.specs.declared.view.OpenFile.{OpenFile}
use Rattle.cas_listed.specs.Listed.{AreLoaded, IsBadFile, IsBadListed, IsLoaded, Loads}

-- a file that stands in both images alike is bad in both
pub bad_as : (t : TableSchema) (shard : ℕ) (c d : Image) (i : TableInfo) (number at : ℕ) → d (table_name i.number) ≡ c (table_name i.number)
    → IsBadListed t shard d i number at → IsBadListed t shard c i number at
bad_as t shard c d i number at same b = record {
  number_is = b.number_is;
  bad = subst (λ (o : Option (List ℕ)). IsBadAt (loaded_at (clustering_order t.columns) t.number shard i (bytes_of o)) at) same b.bad;
}

-- what is found after calls that change nothing stood there before them
module _ (start now : Disk) (during : During Same start now) (reads : Follows Same start.reads now.reads) (t : TableSchema) (shard : ℕ) (c : Image) (read : start.reads c) (i : TableInfo) where
  pub loaded_before : (f : File Held) → ((d : Image) → now.reads d → IsLoaded t shard d i f) → IsLoaded t shard c i f
  loaded_before f loaded =
      let (d, still, same) = reads_on start now during reads c read in
      let l = loaded d still in
      record { bytes = l.bytes; there = sym (same (table_name i.number)) ∙ l.there; contents = l.contents; columns = l.columns; info = l.info; own_info = l.own_info; kept = l.kept }

  pub bad_before : (number at : ℕ) → ((d : Image) → now.reads d → IsBadListed t shard d i number at) → IsBadListed t shard c i number at
  bad_before number at bad =
      let (d, still, same) = reads_on start now during reads c read in
      bad_as t shard c d i number at (same (table_name i.number)) (bad d still)

-- ---- a bad one behind those that are loaded

all_load : (t : TableSchema) (shard : ℕ) (c : Image) (infos : List TableInfo) (fs : List (File Held)) → AreLoaded t shard c infos fs → AllByRecursion (Loads t shard c) infos
all_load t shard c [] fs all = tt
all_load t shard c (i ∷ infos) [] all = absurd all
all_load t shard c (i ∷ infos) (f ∷ fs) all = ((all.0.bytes, f.table.kept, all.0.there, all.0.kept), all_load t shard c infos fs all.1)

pub bad_behind : (t : TableSchema) (shard : ℕ) (c : Image) (infos : List TableInfo) (n : ℕ) (i : TableInfo) (fs : List (File Held)) (number at : ℕ) → n < length infos → i ≡ get_or infos n i
    → AreLoaded t shard c (take n infos) fs → IsBadListed t shard c i number at → IsBadFile t shard c infos number at
bad_behind t shard c infos n i fs number at few is all bad = record {
  before = take n infos;
  info = i;
  behind = drop (suc n) infos;
  place =
      sym (take-append-drop n infos) ∙ ap (λ (js : List TableInfo). take n infos ++ js) (drop-cons infos n i few ∙ ap (λ (j : TableInfo). j ∷ drop (suc n) infos) (sym is));
  others = all_load t shard c (take n infos) fs all;
  bad = bad;
}

-- ---- one more

pub files_behind : {T : Type 0} (old new : List (OpenFile T)) (f : OpenFile T) → new ≡ old ++ f ∷ [] → files_of new ≡ files_of old ++ file_of f ∷ []
files_behind old new f is = ap files_of is ∙ map-append file_of old (f ∷ [])

listed_behind : (infos : List TableInfo) (n : ℕ) (i : TableInfo) → n < length infos → i ≡ get_or infos n i → take (n + 1) infos ≡ take n infos ++ i ∷ []
listed_behind infos n i few is = take_more infos n i few ∙ ap (λ (j : TableInfo). take n infos ++ j ∷ []) (sym is)

loaded_behind : (t : TableSchema) (shard : ℕ) (c : Image) (infos : List TableInfo) (fs : List (File Held)) (i : TableInfo) (f : File Held)
    → AreLoaded t shard c infos fs → IsLoaded t shard c i f → AreLoaded t shard c (infos ++ i ∷ []) (fs ++ f ∷ [])
loaded_behind t shard c [] [] i f all one = (one, tt)
loaded_behind t shard c [] (g ∷ fs) i f all one = absurd all
loaded_behind t shard c (j ∷ infos) [] i f all one = absurd all
loaded_behind t shard c (j ∷ infos) (g ∷ fs) i f all one = (all.0, loaded_behind t shard c infos fs i f all.1 one)

all_behind : {X : Type 0} (P : X → Type 0) (xs : List X) (x : X) → AllByRecursion P xs → P x → AllByRecursion P (xs ++ x ∷ [])
all_behind P [] x all one = (one, tt)
all_behind P (y ∷ xs) x all one = (all.0, all_behind P xs x all.1 one)

module _ (infos : List TableInfo) (n : ℕ) (i : TableInfo) (few : n < length infos) (is : i ≡ get_or infos n i) (fs gs : List (File Held)) (f : File Held) (more : gs ≡ fs ++ f ∷ []) where
  pub loaded_more : (t : TableSchema) (shard : ℕ) (c : Image) → AreLoaded t shard c (take n infos) fs → IsLoaded t shard c i f → AreLoaded t shard c (take (n + 1) infos) gs
  loaded_more t shard c all one =
      subst (λ (xs : List (File Held)). AreLoaded t shard c (take (n + 1) infos) xs) (sym more)
      (subst (λ (js : List TableInfo). AreLoaded t shard c js (fs ++ f ∷ [])) (sym (listed_behind infos n i few is)) (loaded_behind t shard c (take n infos) fs i f all one))

  pub all_more : (P : File Held → Type 0) → AllByRecursion P fs → P f → AllByRecursion P gs
  all_more P all one = subst (λ (xs : List (File Held)). AllByRecursion P xs) (sym more) (all_behind P fs f all one)

  pub told_more : (told : File Held → TableInfo) → map told fs ≡ take n infos → told f ≡ i → map told gs ≡ take (n + 1) infos
  told_more told all one =
      ap (map told) more ∙ map-append told fs (f ∷ []) ∙ (λ k. all k ++ one k ∷ []) ∙ sym (listed_behind infos n i few is)
