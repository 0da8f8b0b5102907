-- What was opened stays so while its table files are loaded, which changes no file.
use Rattle.std.proofs.Common.{◌≡◌, inl, inr, ℕ, List, [], arith, refl, sym, ◌∙◌, subst}
use Rattle.std.specs.Prelude.{IfErr, IfOk, Result, Ok, Err}
use Rattle.cas_atoms.specs.declared.atom.Mutation.{Mutation}
use Rattle.cas_disk.specs.Disk.{Disk, During, Image, Same}
use Rattle.cas_disk.specs.declared.name.Name.TheVariants.{Manifest as manifest_name, Log as log_name}
use Rattle.cas_disk.proofs.Moments.{one_call_more}
use Rattle.cas_changes.specs.declared.entry.Entry.{Entry}
use Rattle.cas_manifest.specs.Loading.{MayBeNewStore, first_entries}
use Rattle.cas_journal.specs.Journals.{Lasts, NoneAbove}
use Rattle.cas_journal.specs.Stores.{Told}
use Rattle.cas_journal.specs.declared.journal.Journal.{Journal}
use Rattle.cas_journal.proofs.Moving.{holds_same, still_free}
use Rattle.cas_journal.proofs.Telling.{same_lasts}
use Rattle.cas_opening.specs.Opening.{HasStayed, MayBeMadeNew, MayBeOpened, while_named}

-- ---- images

stayed_same : (entries : List Entry) (mutations : List Mutation) (d e c : Image) → HasStayed entries mutations d e → Same e c → HasStayed entries mutations d c
stayed_same entries mutations d e c stayed same = record {
  holds = holds_same (while_named entries mutations) e c stayed.holds same;
  stays = λ n other stays. same n ∙ stayed.stays n other stays;
}

opened_same : (entries : List Entry) (mutations : List Mutation) (d e c : Image) → MayBeOpened entries mutations d e → Same e c → MayBeOpened entries mutations d c
opened_same entries mutations d e c (inl was) same = inl (λ n. same n ∙ was n)
opened_same entries mutations d e c (inr stayed) same = inr (stayed_same entries mutations d e c stayed same)

made_same : (shards : ℕ) (d e c : Image) → MayBeMadeNew shards d e → Same e c → MayBeMadeNew shards d c
made_same shards d e c (inl changed) same = inl (record {
  here = subst (λ file. MayBeNewStore shards (d manifest_name) file) (sym (same manifest_name)) changed.here;
  others = λ n other. same n ∙ changed.others n other;
})
made_same shards d e c (inr stayed) same = inr (stayed_same (first_entries shards) [] d e c stayed same)

-- ---- calls one after another

module _ (a b z : Disk) (loading : During Same b z) where
  pub opened_then : (entries : List Entry) (mutations : List Mutation) → During (MayBeOpened entries mutations) a b → During (MayBeOpened entries mutations) a z
  opened_then entries mutations opening =
      one_call_more (MayBeOpened entries mutations) Same a b z opening loading (λ d c was now same. inl same)
      (λ e d c was step now same. opened_same entries mutations e d c step same)

  pub made_then : (shards : ℕ) → During (MayBeMadeNew shards) a b → During (MayBeMadeNew shards) a z
  made_then shards opening =
      one_call_more (MayBeMadeNew shards) Same a b z opening loading
      (λ d c was now same. made_same shards d d c (unmade shards d) same)
      (λ e d c was step now same. made_same shards e d c step same)
    where
      unmade : (shards : ℕ) (d : Image) → MayBeMadeNew shards d d
      unmade shards d = inl (record { here = inl refl; others = λ n other. refl })

  pub same_then : During Same a b → During Same a z
  same_then opening = one_call_more Same Same a b z opening loading (λ d c was now same. same) (λ e d c was step now same n. same n ∙ step n)

-- ---- the journal

module _ (old new : Disk) (loading : During Same old new) where
  pub still_lasts : (j : Journal) (t : Told) → Lasts j old t → Lasts j new t
  still_lasts j t lasts = same_lasts j j old new t loading refl refl refl (omega arith) refl (λ none. none) lasts

  pub stays_free : (last : ℕ) → NoneAbove last old → NoneAbove last new
  stays_free last none = still_free Same old new loading last (λ d c same k above. same (log_name k)) none

-- ---- what is answered

pub if_all : {A E : Type 0} (r : Result A E) (P Q S R : A → Type 0) → IfOk r P → IfOk r Q → IfOk r S → ((x : A) → P x → Q x → S x → R x) → IfOk r R
if_all (Ok x) P Q S R p q s then = then x p q s
if_all (Err e) P Q S R p q s then = tt

pub if_one : {A E : Type 0} (r : Result A E) (P R : A → Type 0) → IfOk r P → ((x : A) → P x → R x) → IfOk r R
if_one (Ok x) P R p then = then x p
if_one (Err e) P R p then = tt

pub of_err : {A E : Type 0} (r : Result A E) (e : E) (P : E → Type 0) → r ≡ Err e → IfErr r P → P e
of_err r e P is p = subst (λ q. IfErr q P) is p
