-- In the table files of a run mutations stand, so that no SELECT and no check finds one bad.
use Rattle.std.proofs.Common.{◌≡◌, ◌<◌, inl, inr, ⊎_elim, ℕ, ℤ, Option, None, Some, List, [], ◌∷◌, length, refl, sym, ap, ◌∙◌, subst, arith}
use Rattle.std.specs.List.{AllByRecursion}
use Rattle.std.specs.Prelude.{slice_get}
use Rattle.cas_types.specs.declared.schema.TableSchema.{TableSchema}
use Rattle.cas_atoms.specs.declared.atom.Mutation.{Mutation}
use Rattle.cas_atoms.specs.declared.query.Query.{Query}
use Rattle.cas_bind.specs.declared.bound.Limits.{Limits}
use Rattle.cas_bounds.specs.ClusteringOrder.{clustering_order}
use Rattle.cas_changes.specs.Saying.{part_of, said_by}
use Rattle.cas_changes.specs.declared.entry.Entry.{Entry as ManifestEntry}
use Rattle.cas_disk.specs.Disk.{Disk, Image}
use Rattle.cas_info.specs.declared.info.TableInfo.{TableInfo}
use Rattle.cas_laws.specs.Given.{Has}
use Rattle.cas_listed.specs.Listed.{AreLoaded}
use Rattle.cas_listed.proofs.Holding.{listed_files_hold}
use Rattle.cas_opening.specs.Opening.{IsOfBytes}
use Rattle.cas_recovery.specs.Openings.{AreOpenings}
use Rattle.cas_recovery.proofs.Standing.{past}
use Rattle.cas_lasting.specs.History.{History}
use Rattle.cas_lasting.specs.Starts.{AreItsFiles, Begins, start}
use Rattle.cas_sessions.specs.Verifying.{IsFoundBad}
use Rattle.cas_sessions.proofs.StandWhole.{files_are_whole}
use Rattle.cas_shard.specs.declared.entry.ShardOpening.{ShardOpening}
use Rattle.cas_sstread.specs.Loading.{Held}
use Rattle.cas_stored.specs.Reading.{IsBadFile}
use Rattle.cas_stored.proofs.WellRead.{files_are_read}
use Rattle.cas_streams.proofs.Weaves.{all_and}
use Rattle.cas_streams.proofs.Winning.{all_have}
use Rattle.cas_view.specs.Views.{File}
use Rattle.cas_words.specs.declared.words.ClockKind.{ClockKind}
use Rattle.cas_node.specs.Lines.{Runs}
use Rattle.cas_node.specs.Ran.{AreGood}
use Rattle.cas_node.specs.declared.upshot.Upshot.{Upshot}
use Rattle.cas_node.proofs.Blaming.{has_either}
use Rattle.cas_node.proofs.NumbersRise.{below_or_past}
use Rattle.cas_node.proofs.Stopping.{AreMore, IsStanding, all_lines, each_stands}

-- ---- the files that were found

none_loaded : (t : TableSchema) (shard : ℕ) (d : Image) (fs : List (File Held)) → AreLoaded t shard d [] fs → AllByRecursion IsStanding fs
none_loaded t shard d [] loaded = tt
none_loaded t shard d (f ∷ fs) loaded = absurd loaded

module _ (entries : List ManifestEntry) (mutations : List Mutation) (folder : Disk) (openings : ℕ → ShardOpening) (files : ℕ → ℕ → List (File Held))
    (its : AreItsFiles entries folder files) (explained : AreOpenings entries mutations folder openings) (c : Image) (reads : folder.reads c) (of : IsOfBytes c) where
  -- those of a table in a shard
  found_there : (n k : ℕ) (t : TableSchema) → n < (said_by entries).shards → k < length (said_by entries).tables → slice_get (said_by entries).tables k ≡ Some t
      → AllByRecursion IsStanding (files n k)
  found_there n k t within below there =
      ⊎_elim (λ is. let say = is.1.says k t there in
      each_stands (clustering_order t.columns) (files n k) say.written
      (listed_files_hold t n loaded.0 (part_of (said_by entries) k n).listed (files n k) say.written loaded.2 (say.stand loaded.0 loaded.1)))
      (λ is. none_loaded t n loaded.0 (files n k) (subst (λ (l : List TableInfo). AreLoaded t n loaded.0 l (files n k)) (ap (λ x. x.listed) (is.0.parts k n below within)) loaded.2))
      (explained n within)
    where
      loaded : (d : Image) × folder.may_leave d × AreLoaded t n d (part_of (said_by entries) k n).listed (files n k)
      loaded = its.loaded c reads of n k t within there

  none_there : (n k : ℕ) → files n k ≡ [] → AllByRecursion IsStanding (files n k)
  none_there n k none = subst (AllByRecursion IsStanding) (sym none) tt

  pub found_stand : (n k : ℕ) → AllByRecursion IsStanding (files n k)
  found_stand n k =
      ⊎_elim (λ within. ⊎_elim (λ below. by_table within below (slice_get (said_by entries).tables k) refl) (λ beyond. none_there n k (its.no_more n k (inr beyond)))
      (below_or_past k (length (said_by entries).tables)))
      (λ beyond. none_there n k (its.no_more n k (inl beyond))) (below_or_past n (said_by entries).shards)
    where
      by_table : n < (said_by entries).shards → k < length (said_by entries).tables → (o : Option TableSchema) → slice_get (said_by entries).tables k ≡ o
          → AllByRecursion IsStanding (files n k)
      by_table within below None none = let beyond = past (said_by entries).tables k none in absurd (omega (arith, below, beyond))
      by_table within below (Some t) there = found_there n k t within below there

  -- and those that were flushed
  module _ (l : Limits) (before : ℕ) (first : History) (begins : Begins l entries mutations openings files before first) (kind : ClockKind) (Gives : ℤ → Type 0)
      (ls : List (List ℕ)) (upshots : List Upshot) (final : History) (runs : Runs kind Gives first ls upshots final) where
    first_files : first.disk.files ≡ files
    unfolding start
    first_files = ap (λ (h : History). h.disk.files) begins.history ∙ begins.files_are

    pub all_stand : (n k : ℕ) → AllByRecursion IsStanding (final.disk.files n k)
    all_stand n k =
        let (more, are, stand) = (all_lines kind Gives first ls upshots final runs).files n k in
        subst (AllByRecursion IsStanding) (sym are)
        (all_and IsStanding (first.disk.files n k) more (subst (λ (fs : ℕ → ℕ → List (File Held)). AllByRecursion IsStanding (fs n k)) (sym first_files) (found_stand n k)) stand)

-- ---- none is bad

read_well : (fs : List (File Held)) → AllByRecursion IsStanding fs → (number at : ℕ) (q : Query) → IsBadFile fs q.key q.slice number at → ⊥
read_well fs stand number at q bad =
    let (order, ws, stands) = all_have IsStanding fs bad.0 stand bad.1 in
    files_are_read order bad.0 ws q.key q.slice number at stands bad.2

whole : (fs : List (File Held)) → AllByRecursion IsStanding fs → (number at : ℕ) → IsFoundBad fs number at → ⊥
whole fs stand number at found =
    let (f, has, is, bad) = found in
    let (order, ws, stands) = all_have IsStanding fs f stand has in
    files_are_whole order f ws at stands bad

-- files in which mutations stand are good
pub standing_good : (files : ℕ → ℕ → List (File Held)) → ((n k : ℕ) → AllByRecursion IsStanding (files n k)) → AreGood files
standing_good files stand = record {
  slices = λ shard number at q bad. read_well (files shard q.table) (stand shard q.table) number at q bad;
  wholes = λ shard table number at found. whole (files shard table) (stand shard table) number at found;
}

-- Good files stay good where others come behind them in which mutations stand.
pub still_good : (before after : ℕ → ℕ → List (File Held)) → AreMore before after → AreGood before → AreGood after
still_good before after more good = record {
  slices = λ shard number at q bad.
      let (others, are, stand) = more shard q.table in
      let (f, has, fault) = bad in
      ⊎_elim (λ own. good.slices shard number at q (f, own, fault)) (λ other. read_well others stand number at q (f, other, fault))
      (has_either (before shard q.table) others f (subst (λ fs. Has fs f) are has));
  wholes = λ shard table number at found.
      let (others, are, stand) = more shard table in
      let (f, has, is, bad) = found in
      ⊎_elim (λ own. good.wholes shard table number at (f, own, is, bad)) (λ other. whole others stand number at (f, other, is, bad))
      (has_either (before shard table) others f (subst (λ fs. Has fs f) are has));
}
