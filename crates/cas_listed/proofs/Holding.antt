-- What stands in a listed file that is loaded, and that such a file isn't bad.
use Rattle.std.proofs.Common.{◌≡◌, ℕ, inl, inr, List, [], ◌∷◌, ◌++◌, Some, Ok, Result, refl, sym, subst, ap, ◌∙◌}
use Rattle.cas_types.specs.declared.schema.Column.{Column}
use Rattle.cas_types.specs.declared.schema.TableSchema.{TableSchema}
use Rattle.cas_bounds.specs.ClusteringOrder.{clustering_order}
use Rattle.cas_atoms.specs.declared.atom.Mutation.{Mutation}
use Rattle.cas_codec.specs.declared.fault.ReadFault.{ReadFault}
use Rattle.cas_disk.specs.Disk.{Image, bytes_of}
use Rattle.cas_disk.specs.declared.name.Name.TheVariants.{Table as table_name}
use Rattle.cas_info.specs.declared.info.TableInfo.{TableInfo}
use Rattle.cas_tables.specs.Contents.{Contents}
use Rattle.cas_tables.specs.Files.{table_bytes}
use Rattle.cas_tables.specs.Fitting.{FitsContents}
use Rattle.cas_sstread.specs.Reading.{Loaded, loaded_at}
use Rattle.cas_sstread.specs.Laws.{kept_for}
use Rattle.cas_sstread.specs.Loading.{Held, IsBadAt}
use Rattle.cas_sstread.proofs.ContentsLoad.{tables_load}
use Rattle.cas_view.specs.Views.{File}
use Rattle.cas_stored.specs.Contents.{IsOf}
use Rattle.cas_stored.specs.Stored.{StandInFile}
use Rattle.cas_stored.proofs.Loaded.{loaded_stands}
use Rattle.cas_listed.specs.Laws.{FilesAreNeverBad, ListedFilesHold}
use Rattle.cas_listed.specs.Listed.{IsBadListed, IsFileIn, IsLoaded, StandIn, StandInFiles}

same_file : (x : Result Loaded ReadFault) (a b : Loaded) → x ≡ Ok a → x ≡ Ok b → a ≡ b
same_file x a b e f = cc

never : (x : Result Loaded ReadFault) (k : Loaded) (at : ℕ) → x ≡ Ok k → IsBadAt x at → ⊥
never x k at e (inl bad) = cc
never x k at e (inr bad) = cc

module _ (t : TableSchema) (shard : ℕ) (c : Image) (i : TableInfo) where
  -- the file of contents that stands there is the one with these bytes, and loads as what is kept of the contents
  module _ (x : Contents) (file : IsFileIn t shard c i x) (bytes : List ℕ) (there : c (table_name i.number) ≡ Some bytes) where
    same_bytes : bytes ≡ table_bytes x file.facts
    same_bytes = let stands = file.there in cc

    loads : loaded_at (clustering_order t.columns) t.number shard i bytes ≡ Ok (kept_for x)
    loads =
        let own = tables_load.loads t.columns x (table_bytes x file.facts) file.fits (record { facts = file.facts; of_atoms = file.of_atoms; spelled = refl }) in
        let table = file.table_is in
        let its = file.shard_is in
        let listed = file.listed in
        let same = same_bytes in
        cc

  stands : (ws : List Mutation) (f : File Held) → StandIn t shard c i ws → IsLoaded t shard c i f → StandInFile (clustering_order t.columns) f ws
  stands ws f s l =
      subst (λ (columns : List Column). StandInFile (clustering_order columns) f ws) l.columns
      (loaded_stands f s.contents s.file.facts ws of s.file.of_atoms (l.own_info ∙ s.file.listed) (l.info ∙ s.file.listed) s.says s.none)
    where
      of : IsOf f.table s.contents s.file.facts
      of = record {
        fits = subst (λ (columns : List Column). FitsContents columns s.contents) (let e = l.columns in cc) s.file.fits;
        contents = l.contents ∙ ap (λ (b : List ℕ). Some b) (same_bytes s.contents s.file l.bytes l.there);
        kept = same_file _ f.table.kept (kept_for s.contents) l.kept (loads s.contents s.file l.bytes l.there);
      }

  isnt_bad : (ws : List Mutation) (number at : ℕ) → StandIn t shard c i ws → IsBadListed t shard c i number at → ⊥
  isnt_bad ws number at s bad = never _ (kept_for s.contents) at (loads s.contents s.file _ (s.file.there ∙ ap (λ (b : List ℕ). Some b) (sym (ap bytes_of s.file.there)))) bad.bad

pub listed_files_hold : ListedFilesHold
listed_files_hold t shard c [] [] [] loaded stand = tt
listed_files_hold t shard c [] [] (ws ∷ wss) loaded stand = absurd stand
listed_files_hold t shard c [] (f ∷ fs) wss loaded stand = absurd loaded
listed_files_hold t shard c (i ∷ infos) [] wss loaded stand = absurd loaded
listed_files_hold t shard c (i ∷ infos) (f ∷ fs) [] loaded stand = absurd stand
listed_files_hold t shard c (i ∷ infos) (f ∷ fs) (ws ∷ wss) loaded stand =
    (stands t shard c i ws f stand.0 loaded.0, listed_files_hold t shard c infos fs wss loaded.1 stand.1)

-- in each of the listed files some stand
one_stands : (t : TableSchema) (shard : ℕ) (c : Image) (before : List TableInfo) (i : TableInfo) (behind : List TableInfo) (wss : List (List Mutation))
    → StandInFiles t shard c (before ++ i ∷ behind) wss → (ws : List Mutation) × StandIn t shard c i ws
one_stands t shard c [] i behind [] stand = absurd stand
one_stands t shard c [] i behind (ws ∷ wss) stand = (ws, stand.0)
one_stands t shard c (j ∷ before) i behind [] stand = absurd stand
one_stands t shard c (j ∷ before) i behind (ws ∷ wss) stand = one_stands t shard c before i behind wss stand.1

pub files_are_never_bad : FilesAreNeverBad
files_are_never_bad t shard c infos wss number at stand bad =
    let (ws, one) = one_stands t shard c bad.before bad.info bad.behind wss (subst (λ (is : List TableInfo). StandInFiles t shard c is wss) bad.place stand) in
    isnt_bad t shard c bad.info ws number at one bad.bad
