-- Why a store isn't read back: a listed table file that isn't as it must be.
use Rattle.std.proofs.Common.{◌≡◌, inl, inr, ℕ, List, [], ◌∷◌, ◌++◌, refl, sym, ap, ◌∙◌, subst}
use Rattle.std.specs.List.{AllByRecursion}
use Rattle.cas_types.specs.declared.schema.TableSchema.{TableSchema}
use Rattle.cas_info.specs.declared.info.TableInfo.{TableInfo}
use Rattle.cas_disk.specs.Disk.{Disk, During, Image}
use Rattle.cas_disk.specs.declared.name.Name.{Name}
use Rattle.cas_disk.specs.declared.name.Name.TheVariants.{Import as import_name, Log as log_name, Manifest as manifest_name, Table as table_name}
use Rattle.cas_atoms.specs.declared.atom.Mutation.{Mutation}
use Rattle.cas_changes.specs.declared.entry.Entry.{Entry}
use Rattle.cas_changes.specs.declared.said.Part.{Part}
use Rattle.cas_changes.specs.Saying.{Saying, no_part, part_of, said_by}
use Rattle.cas_manifest.specs.Loading.{IsNew}
use Rattle.cas_listed.specs.Listed.{IsBadFile, Loads}
use Rattle.cas_listed.proofs.Behind.{bad_as}
use Rattle.cas_listed.proofs.Holding.{files_are_never_bad}
use Rattle.cas_opening.specs.Opening.{IsReadWith, MayBeMadeNew, MayBeOpened, OpensAs}
use Rattle.cas_opening.specs.declared.opened.OpenStore.{OpenStore}
use Rattle.cas_journal.specs.Stores.{IsStore}
use Rattle.cas_shard.specs.declared.entry.ShardOpening.{ShardOpening}
use Rattle.cas_recovery.specs.Openings.{AreOpenings, MayHaveBeen}
use Rattle.cas_recovery.specs.Recovered.{IsBadTable}
use Rattle.cas_recovery.specs.Inner.Filling.{IsBadOf, IsBadOfShard}
use Rattle.cas_recovery.specs.declared.fault.RecoveryFault.TheVariants as fault
use Rattle.cas_recovery.proofs.Places.{get_within}
use Rattle.cas_recovery.proofs.Returning.{no_table, no_tables, said_is}
use Rattle.cas_recovery.proofs.Standing.{AreAlike, all_listed, left_before, own_file}
use Rattle.cas_recovery.proofs.Within.{within}

-- ---- images that are the same in the listed files

front_alike : (d c : Image) (before infos : List TableInfo) → AreAlike d c (before ++ infos) → AreAlike d c before
front_alike d c [] infos alike = tt
front_alike d c (i ∷ before) infos alike = (alike.0, front_alike d c before infos alike.1)

here_alike : (d c : Image) (before : List TableInfo) (i : TableInfo) (behind : List TableInfo) → AreAlike d c (before ++ i ∷ behind)
    → c (table_name i.number) ≡ d (table_name i.number)
here_alike d c [] i behind alike = alike.0
here_alike d c (j ∷ before) i behind alike = here_alike d c before i behind alike.1

all_load : (t : TableSchema) (shard : ℕ) (d c : Image) (infos : List TableInfo) → AreAlike d c infos → AllByRecursion (Loads t shard c) infos → AllByRecursion (Loads t shard d) infos
all_load t shard d c [] alike all = tt
all_load t shard d c (i ∷ infos) alike all =
    let (bytes, kept, there, loads) = all.0 in
    ((bytes, kept, sym alike.0 ∙ there, loads), all_load t shard d c infos alike.1 all.1)

bad_before : (t : TableSchema) (shard : ℕ) (d c : Image) (infos : List TableInfo) (number at : ℕ) → AreAlike d c infos → IsBadFile t shard c infos number at
    → IsBadFile t shard d infos number at
bad_before t shard d c infos number at alike is =
    let parts : AreAlike d c (is.before ++ is.info ∷ is.behind) = subst (AreAlike d c) is.place alike in
    record {
      before = is.before;
      info = is.info;
      behind = is.behind;
      place = is.place;
      others = all_load t shard d c is.before (front_alike d c is.before (is.info ∷ is.behind) parts) is.others;
      bad = bad_as t shard d c is.info number at (here_alike d c is.before is.info is.behind parts) is.bad;
    }

-- ---- which file it is

one_number : (s : Saying) (name : Name) (at : ℕ) (c : Image) (t : TableSchema) (shard : ℕ) → IsBadOf s c t shard (fault.Bad name at)
    → (number : ℕ) × (name ≡ table_name number) × IsBadFile t shard c (part_of s t.number shard).listed number at
one_number s (table_name number) at c t shard bad = (number, refl, bad)
one_number s manifest_name at c t shard bad = absurd bad
one_number s (log_name number) at c t shard bad = absurd bad
one_number s (import_name number) at c t shard bad = absurd bad

module _ (entries : List Entry) (mutations handed : List Mutation) (o : OpenStore) (read : IsReadWith entries mutations handed o.journal o.said) where
  abbrev s : Saying
  s = said_by entries

  as_said : (c : Image) (name : Name) (at : ℕ) → IsBadOfShard o.said c (fault.Bad name at) → IsBadOfShard s c (fault.Bad name at)
  as_said c name at bad =
      let (segments, last, is) = said_is entries mutations handed o read in
      subst (λ (q : Saying). IsBadOfShard q c (fault.Bad name at)) is bad

  pub bad_table : (shards : ℕ) (old mid : Disk) (image : Image) (name : Name) (at : ℕ) → old.reads image → OpensAs shards entries mutations image
      → (IsStore entries mutations image → During (MayBeOpened entries mutations) old mid) → (IsNew image → During (MayBeMadeNew shards) old mid)
      → ((c : Image) → mid.reads c → IsBadOfShard o.said c (fault.Bad name at)) → IsBadTable entries old name at
  bad_table shards old mid image name at reads (inl store) stays made bad =
      let call = stays store in
      let (c, now) = call.tells image reads in
      let (n, low, one) = as_said c name at (bad c now) in
      let (t, table, there, is) = one in
      let (number, own, file) = one_number s name at c t n is in
      let (d, left, stay) = left_before entries mutations old mid image reads call c now in
      let place : t.number ≡ table = (within entries read.follow).numbers table t there in
      let here : IsBadFile t n c (part_of s table n).listed number at = subst (λ (k : ℕ). IsBadFile t n c (part_of s k n).listed number at) place file in
      let infos = (part_of s table n).listed in
      record {
        number = number;
        name_is = own;
        table = table;
        schema = t;
        there = there;
        shard = n;
        within = low;
        image = d;
        left = left;
        bad = bad_before t n d c infos number at (all_listed s d c table n infos (get_within s.tables table t there) low stay (own_file infos infos (λ k h. h))) here;
      }
  bad_table shards old mid image name at reads (inr (new, first, empty)) stays made bad =
      let (c, now) = (made new).tells image reads in
      let (n, low, one) = as_said c name at (bad c now) in
      let (t, table, there, is) = one in
      absurd (no_table s.tables table t (ap (λ (es : List Entry). (said_by es).tables) first ∙ no_tables shards) there)

-- ---- a store that some shards explain isn't refused for its files

none_bad : (t : TableSchema) (shard : ℕ) (c : Image) (number at : ℕ) → IsBadFile t shard c [] number at → ⊥
none_bad t shard c number at bad = nothing_behind bad.before bad.info bad.behind bad.place
  where
    nothing_behind : (before : List TableInfo) (i : TableInfo) (behind : List TableInfo) → [] ≡ before ++ i ∷ behind → ⊥
    nothing_behind [] i behind e = cc
    nothing_behind (j ∷ before) i behind e = cc

pub never_bad : (entries : List Entry) (mutations : List Mutation) (folder : Disk) (openings : ℕ → ShardOpening) (name : Name) (at : ℕ)
    → AreOpenings entries mutations folder openings → IsBadTable entries folder name at → ⊥
never_bad entries mutations folder openings name at may bad = by (may bad.shard bad.within)
  where
    by : MayHaveBeen (said_by entries) mutations folder bad.shard (openings bad.shard) → ⊥
    by (inl (tells, is)) =
        let say = is.says bad.table bad.schema bad.there in
        files_are_never_bad bad.schema bad.shard bad.image (part_of (said_by entries) bad.table bad.shard).listed say.written bad.number at (say.stand bad.image bad.left) bad.bad
    by (inr (none, e)) =
        let part : part_of (said_by entries) bad.table bad.shard ≡ no_part = none.parts bad.table bad.shard (get_within (said_by entries).tables bad.table bad.schema bad.there) bad.within in
        none_bad bad.schema bad.shard bad.image bad.number at
        (subst (λ (p : Part). IsBadFile bad.schema bad.shard bad.image p.listed bad.number at) part bad.bad)
