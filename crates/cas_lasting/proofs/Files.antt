-- The manifest lists just the files of a store, after a step.
use Rattle.std.proofs.Common.{◌≡◌, ◌≢◌, ◌⊎◌, inl, inr, ◌<◌, ◌+◌, ◌*◌, ℕ, List, [], ◌∷◌, ◌++◌, length, filter, map, not, Option, refl, sym, ap, ◌∙◌, subst, append-nil}
use Rattle.std.proofs.lemmas.Grind.{flat_map-append}
use Rattle.std.specs.Prelude.{slice_get, unwrap_or}
use Rattle.cas_info.specs.declared.info.TableInfo.{TableInfo}
use Rattle.cas_changes.specs.Saying.{Saying, after, change_after, is_listed, no_part, part_after, part_of, place_in, said_by}
use Rattle.cas_changes.specs.declared.entry.Change.{Change}
use Rattle.cas_changes.specs.declared.entry.Entry.{Entry as ManifestEntry}
use Rattle.cas_changes.specs.declared.entry.Entry.TheVariants as entry
use Rattle.cas_changes.specs.declared.said.Part.{Part}
use Rattle.cas_journal.specs.Ends.{IsDefinition}
use Rattle.cas_journal.specs.Stores.{named}
use Rattle.cas_recovery.proofs.Places.{get_here, get_other, same_place}
use Rattle.cas_recovery.proofs.Within.{named_alone}
use Rattle.cas_sstread.specs.Loading.{Held}
use Rattle.cas_view.specs.Views.{File}
use Rattle.cas_lasting.specs.Entered.{ListFiles}
use Rattle.cas_lasting.specs.History.{change_told, changes_told}
use Rattle.cas_lasting.proofs.Behind.{part_more}
use Rattle.cas_lasting.proofs.Parts.{HasParts, is_within, one_shard, one_table, there_at}

-- the table files, by shard and table
abbrev pub Files : Type 0
Files = ℕ → ℕ → List (File Held)

-- ---- the manifest tells the same

-- the files are the same
pub list_still : (said : Saying) (fs gs : Files) → ((n table : ℕ) → gs n table ≡ fs n table) → ListFiles said fs → ListFiles said gs
list_still said fs gs same are n table low = ap (λ (l : List (File Held)). map (λ f. f.info) l) (same n table) ∙ are n table low

pub list_same : (said : Saying) (fs gs : Files) → gs ≡ fs → ListFiles said fs → ListFiles said gs
list_same said fs gs same are = subst (ListFiles said) (sym same) are

-- ---- it tells more, and nothing of table files

pub list_said : (said now : Saying) (fs : Files) → now.shards ≡ said.shards → now.parts ≡ said.parts → ListFiles said fs → ListFiles now fs
list_said said now fs shards parts are n table low =
    are n table (subst (λ (k : ℕ). n < k) shards low)
    ∙ ap (λ (k : ℕ). (unwrap_or (slice_get said.parts (table * k + n)) no_part).listed) (sym shards)
    ∙ ap (λ (ps : List Part). (unwrap_or (slice_get ps (place_in now table n)) no_part).listed) (sym parts)

-- segments that are named
pub list_named : (entries : List ManifestEntry) (numbers : List ℕ) (fs : Files) → ListFiles (said_by entries) fs → ListFiles (said_by (entries ++ named numbers)) fs
list_named entries numbers fs are =
    let (segments, segment, same) = named_alone entries numbers in
    subst (λ (said : Saying). ListFiles said fs) (sym same) are

-- a definition
pub list_defined : (said : Saying) (x : ManifestEntry) (fs : Files) → IsDefinition x → ListFiles said fs → ListFiles (after said x) fs
list_defined said (entry.Schema t) fs defines are = λ n table low.
    are n table low ∙ ap (λ (p : Part). p.listed) (sym (part_more said.parts said.shards (place_in said table n)))
list_defined said (entry.AddColumns table columns) fs defines are = are
list_defined said (entry.Store n) fs defines are = absurd defines
list_defined said (entry.NewSegment n) fs defines are = absurd defines
list_defined said (entry.DropSegment n) fs defines are = absurd defines
list_defined said (entry.Change c) fs defines are = absurd defines

-- ---- the changes that entries tell

none_named : (numbers : List ℕ) → changes_told (named numbers) ≡ []
none_named [] = refl
none_named (n ∷ numbers) = none_named numbers

pub told_named : (entries : List ManifestEntry) (numbers : List ℕ) → changes_told (entries ++ named numbers) ≡ changes_told entries
told_named entries numbers =
    flat_map-append change_told entries (named numbers) ∙ ap (λ cs. changes_told entries ++ cs) (none_named numbers) ∙ append-nil (changes_told entries)

none_defined : (x : ManifestEntry) → IsDefinition x → changes_told (x ∷ []) ≡ []
none_defined (entry.Schema t) defines = refl
none_defined (entry.AddColumns table columns) defines = refl
none_defined (entry.Store n) defines = absurd defines
none_defined (entry.NewSegment n) defines = absurd defines
none_defined (entry.DropSegment n) defines = absurd defines
none_defined (entry.Change c) defines = absurd defines

pub told_defined : (entries : List ManifestEntry) (x : ManifestEntry) → IsDefinition x → changes_told (entries ++ x ∷ []) ≡ changes_told entries
told_defined entries x defines =
    flat_map-append change_told entries (x ∷ []) ∙ ap (λ cs. changes_told entries ++ cs) (none_defined x defines) ∙ append-nil (changes_told entries)

pub told_more : (entries : List ManifestEntry) (c : Change) → changes_told (entries ++ entry.Change c ∷ []) ≡ changes_told entries ++ c ∷ []
told_more entries c = flat_map-append change_told entries (entry.Change c ∷ [])

-- ---- it tells of one file more

all_stay : (is : List TableInfo) → filter (λ i. not (is_listed [] i.number)) is ≡ is
all_stay [] = refl
all_stay (i ∷ is) = ap (λ l. i ∷ l) (all_stay is)

module _ (said : Saying) (c : Change) (fs gs : Files) (has : HasParts said) (table : c.table < length said.tables) (shard : c.shard < said.shards) (removed : c.removed ≡ [])
    (here : map (λ f. f.info) (gs c.shard c.table) ≡ map (λ f. f.info) (fs c.shard c.table) ++ c.added)
    (others : (n k : ℕ) → ((n ≡ c.shard) × (k ≡ c.table) → ⊥) → gs n k ≡ fs n k) (are : ListFiles said fs) where
  abbrev place : ℕ
  place = place_in said c.table c.shard

  abbrev part : Part
  part = part_after (part_of said c.table c.shard) c

  now_there : part_of (change_after said c) c.table c.shard ≡ part
  now_there =
      let (p, at) = there_at said.parts place (is_within said c.table c.shard has table shard) in
      ap (λ (o : Option Part). unwrap_or o no_part) (get_here said.parts place p part at)

  its_files : part.listed ≡ (part_of said c.table c.shard).listed ++ c.added
  its_files =
      ap (λ (is : List TableInfo). is ++ c.added)
      (ap (λ (ns : List ℕ). filter (λ i. not (is_listed ns i.number)) (part_of said c.table c.shard).listed) removed ∙ all_stay (part_of said c.table c.shard).listed)

  pub list_changed : ListFiles (change_after said c) gs
  list_changed n k low = by (same_place (place_in said k n) place)
    where
      by : (place_in said k n ≡ place) ⊎ (place_in said k n ≢ place) → map (λ f. f.info) (gs n k) ≡ (part_of (change_after said c) k n).listed
      by (inl same) =
          let at_n : n ≡ c.shard = one_shard k c.table n c.shard said.shards low shard same in
          let at_k : k ≡ c.table = one_table k c.table n c.shard said.shards low shard same in
          subst (λ (i : ℕ). map (λ f. f.info) (gs i k) ≡ (part_of (change_after said c) k i).listed) (sym at_n)
          (subst (λ (j : ℕ). map (λ f. f.info) (gs c.shard j) ≡ (part_of (change_after said c) j c.shard).listed) (sym at_k)
          (here ∙ ap (λ (is : List TableInfo). is ++ c.added) (are c.shard c.table shard) ∙ sym its_files ∙ ap (λ (p : Part). p.listed) (sym now_there)))
      by (inr apart) =
          ap (λ (l : List (File Held)). map (λ f. f.info) l) (others n k (λ both. apart (ap (λ (i : ℕ). place_in said k i) both.0 ∙ ap (λ (j : ℕ). place_in said j c.shard) both.1)))
          ∙ are n k low ∙ ap (λ (o : Option Part). (unwrap_or o no_part).listed) (sym (get_other said.parts place (place_in said k n) part apart))
