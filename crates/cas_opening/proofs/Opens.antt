-- A store that is read, swept and begun, and what its opening leaves.
use Rattle.std.proofs.Common.{◌≡◌, inl, inr, ℕ, List, [], filter, Result, Ok, Err, IfOk, IfErr, ◌∙◌, sym, subst}
use Rattle.std.proofs.lemmas.List.{append-nil}
use Rattle.cas_disk.specs.declared.name.Name.TheVariants.{Manifest as manifest_name}
use Rattle.cas_disk.specs.Disk.{Image, Disk, During, Changed, Same}
use Rattle.cas_disk.proofs.Moments.{reworded, one_call_more}
use Rattle.cas_atoms.specs.declared.atom.Mutation.{Mutation}
use Rattle.cas_changes.specs.declared.entry.Entry.{Entry}
use Rattle.cas_changes.specs.Saying.{nothing, said_by}
use Rattle.cas_manifest.specs.File.{MayFollow}
use Rattle.cas_manifest.specs.Manifests.{Place}
use Rattle.cas_manifest.specs.Loading.{IsNew, MayBeNewStore, first_entries}
use Rattle.cas_journal.specs.Stores.{IsStore}
use Rattle.cas_opening.specs.declared.opened.OpenStore.{OpenStore}
use Rattle.cas_opening.specs.declared.fault.OpenFault.{OpenFault}
use Rattle.cas_opening.specs.declared.fault.OpenFault.TheVariants.{Bad, Failed, Mem}
use Rattle.cas_opening.specs.Opening.{IsOfBytes, OpensAs, Answers, Ends, EndsWith, IsReadWith, HasStayed, MayBeOpened, MayBeMadeNew, is_above}
use Rattle.cas_opening.specs.Inner.Faults.{IsOfFolder}
use Rattle.cas_opening.specs.Inner.Keeping.{Keeps}
use Rattle.cas_opening.specs.Inner.Naming.{IsBegunWith, IsToldOf}
use Rattle.cas_opening.specs.Inner.Reading.{IsWhole, IsRead, FaultGave}
use Rattle.cas_opening.specs.Inner.Sweeping.{Spares}
use Rattle.cas_journal.proofs.Sayings.{is_made as made}
use Rattle.cas_opening.proofs.Saids.{sound, shard_count}
use Rattle.cas_opening.proofs.Keeps.{keeps_store}
use Rattle.cas_opening.proofs.Readings.{one_store, opens_not_bad}
use Rattle.cas_opening.proofs.Names.{store_spared, holds_store}

-- ---- moments

module _ (entries : List Entry) (ms : List Mutation) where
  -- while files are removed that aren't listed
  pub swept_stayed : (place : Place) (a b : Disk) → Keeps place entries ms a → During (Spares (said_by entries)) a b → During (HasStayed entries ms) a b
  swept_stayed place a b keeps call =
      reworded (Spares (said_by entries)) (HasStayed entries ms) a b call
      (λ d c was spared. record { holds = holds_store entries ms c (store_spared entries ms d c (keeps_store place entries ms a keeps d was) spared); stays = λ n other stays. spared n stays })

  pub only_read : (a z : Disk) → During Same a z → During (MayBeOpened entries ms) a z
  only_read a z call = reworded Same (MayBeOpened entries ms) a z call (λ d c was same. inl same)

  pub read_and_opened : (a b z : Disk) → During Same a b → During (HasStayed entries ms) b z → During (MayBeOpened entries ms) a z
  read_and_opened a b z first second =
      one_call_more (MayBeOpened entries ms) (HasStayed entries ms) a b z (only_read a b first) second (λ d c was mid stayed. inr stayed)
      (λ e d c was before mid stayed. inr (after_either e d c before stayed))
    where
      after_either : (e d c : Image) → MayBeOpened entries ms e d → HasStayed entries ms d c → HasStayed entries ms e c
      after_either e d c (inl same) stayed = record { holds = stayed.holds; stays = λ n other stays. stayed.stays n other stays ∙ same n }
      after_either e d c (inr before) stayed = record { holds = stayed.holds; stays = λ n other stays. stayed.stays n other stays ∙ before.stays n other stays }

module _ (shards : ℕ) where
  pub only_made : (a z : Disk) → During (Changed manifest_name (MayBeNewStore shards)) a z → During (MayBeMadeNew shards) a z
  only_made a z call = reworded (Changed manifest_name (MayBeNewStore shards)) (MayBeMadeNew shards) a z call (λ d c was changed. inl changed)

  pub made_and_opened : (a b z : Disk) → During (Changed manifest_name (MayBeNewStore shards)) a b → During (HasStayed (first_entries shards) []) b z → During (MayBeMadeNew shards) a z
  made_and_opened a b z first second =
      one_call_more (MayBeMadeNew shards) (HasStayed (first_entries shards) []) a b z (only_made a b first) second (λ d c was mid stayed. inr stayed)
      (λ e d c was before mid stayed. inr (after_either e d c before stayed))
    where
      after_either : (e d c : Image) → MayBeMadeNew shards e d → HasStayed (first_entries shards) [] d c → HasStayed (first_entries shards) [] e c
      after_either e d c (inl changed) stayed = record { holds = stayed.holds; stays = λ n other stays. stayed.stays n other stays ∙ changed.others n other }
      after_either e d c (inr before) stayed = record { holds = stayed.holds; stays = λ n other stays. stayed.stays n other stays ∙ before.stays n other stays }

-- ---- what is answered

-- what isn't refused where mutations are handed on isn't where they are answered
pub kept_ends : (entries : List Entry) (ms given : List Mutation) (disk : Disk) (f : OpenFault) → EndsWith entries ms given disk (Err f) → Ends entries ms disk (Err f)
kept_ends entries ms given disk Failed is = tt
kept_ends entries ms given disk Mem is = tt
kept_ends entries ms given disk (Bad name at) is = is

pub folder_answers : (T : Type 0) (shards : ℕ) (c : Image) (f : OpenFault) → IsOfFolder f → Answers {T = T} shards c (Err f)
folder_answers T shards c Failed is = tt
folder_answers T shards c Mem is = tt
folder_answers T shards c (Bad name at) is = absurd is

-- what is refused is no store
pub refused_ends : (T : Type 0) (shards : ℕ) (c : Image) → IsOfBytes c → (entries : List Entry) (ms given : List Mutation) (disk : Disk) (f : OpenFault) → OpensAs shards entries ms c
    → Answers {T = T} shards c (Err f) → FaultGave entries ms given f → EndsWith entries ms given disk (Err f)
refused_ends T shards c bytes entries ms given disk Failed opens answers gave = gave
refused_ends T shards c bytes entries ms given disk Mem opens answers gave = gave
refused_ends T shards c bytes entries ms given disk (Bad name at) opens answers gave = opens_not_bad c bytes shards entries ms opens name at answers

pub answers_still : (T U : Type 0) (shards : ℕ) (c : Image) (f : OpenFault) → Answers {T = T} shards c (Err f) → Answers {T = U} shards c (Err f)
answers_still T U shards c Failed answers = tt
answers_still T U shards c Mem answers = tt
answers_still T U shards c (Bad name at) answers = answers

-- ---- a store that was read

-- it is the store that is there
pub it_is : (shards : ℕ) (place : Place) (entries others : List Entry) (ns ms : List Mutation) (c : Image) → IsOfBytes c → (disk : Disk) → IsRead shards place entries ns c disk
    → OpensAs shards others ms c → (P : List Entry → List Mutation → Type 0) → (Keeps place entries ns disk → P entries ns) → P others ms
it_is shards place entries others ns ms c bytes disk is opens P says =
    let same = one_store c bytes shards entries others ns ms is.opens opens in
    subst (λ (l : List Mutation). P others l) same.1 (subst (λ (es : List Entry). P es ns) same.0 (says is.keeps))

-- whatever the folder tells
read_as : (entries : List Entry) (ms given : List Mutation) (o : OpenStore) → IsWhole entries ms given → MayFollow nothing entries → IsToldOf entries o.journal o.said
    → IsReadWith entries ms given o.journal o.said
read_as entries ms given o whole follow told =
    let s = sound entries follow in
    record {
      made = whole.made;
      follow = follow;
      shards = shard_count (said_by entries) s (made entries whole.made follow);
      log = whole.log;
      numbers = told.numbers;
      begins = told.begins;
      said = told.said;
      above = whole.above;
      last = told.last;
    }

pub opened_read : (entries : List Entry) (ms given : List Mutation) (took : List Mutation → Type 0) (Tells : List Entry → List Mutation → Type 0) (r : Result OpenStore OpenFault)
    → took given → IsWhole entries ms given → MayFollow nothing entries → Tells entries ms → IfOk r (λ o. IsToldOf entries o.journal o.said)
    → IfOk r (λ o. (es : List Entry) × (ns : List Mutation) × (gs : List Mutation) × took gs × IsReadWith es ns gs o.journal o.said × Tells es ns)
opened_read entries ms given took Tells (Ok o) has whole follow tells told = (entries, ms, given, has, read_as entries ms given o whole follow told, tells)
opened_read entries ms given took Tells (Err f) has whole follow tells told = tt

-- how its opening ends
pub opened_ends : (entries : List Entry) (ms given : List Mutation) (disk : Disk) (r : Result OpenStore OpenFault) → IfErr r (λ f. IsOfFolder f)
    → IfOk r (λ o. IsBegunWith entries ms o.journal o.said disk) → given ≡ filter (is_above (said_by entries)) ms → EndsWith entries ms given disk r
opened_ends entries ms given disk (Ok o) why begun above = record { numbers = begun.numbers; begins = begun.begins; lasts = begun.lasts; said = begun.said; above = above }
opened_ends entries ms given disk (Err Failed) why begun above = ([], sym above ∙ sym (append-nil given))
opened_ends entries ms given disk (Err Mem) why begun above = ([], sym above ∙ sym (append-nil given))
opened_ends entries ms given disk (Err (Bad name at)) why begun above = absurd why

-- where there is no store and none may be made, none was read
pub no_store : (shards : ℕ) (entries : List Entry) (ms : List Mutation) (c : Image) → OpensAs shards entries ms c → (IsNew c → ⊥)
    → ((es : List Entry) (ns : List Mutation) → IsStore es ns c → ⊥) → ⊥
no_store shards entries ms c (inl store) old none = none entries ms store
no_store shards entries ms c (inr new) old none = old new.0
