-- The listed table files through a run: while the store is opened, and while its lines run.
use Rattle.std.proofs.Common.{◌≡◌, ◌≢◌, inl, inr, ⊎_elim, ◌∙◌, ℕ, List, [], refl, sym, subst}
use Rattle.std.specs.Prelude.{◌≤◌}
use Rattle.std.specs.List.{AllByRecursion}
use Rattle.cas_disk.specs.declared.name.Name.TheVariants.{Manifest as manifest_name, Table as table_name}
use Rattle.cas_disk.specs.Disk.{Disk, During, Image}
use Rattle.cas_disk.proofs.Moments.{left_after, no_call, one_call_more, reworded}
use Rattle.cas_atoms.specs.declared.atom.Mutation.{Mutation}
use Rattle.cas_changes.specs.Saying.{said_by}
use Rattle.cas_changes.specs.declared.entry.Entry.{Entry as ManifestEntry}
use Rattle.cas_manifest.specs.Loading.{IsNew, first_entries}
use Rattle.cas_journal.specs.Stores.{IsStore}
use Rattle.cas_opening.specs.Opening.{HasStayed, MayBeMadeNew, MayBeOpened, OpensAs}
use Rattle.cas_lasting.specs.Listing.{SameListed, SameUpTo}
use Rattle.cas_node.specs.Lines.{Tells}
use Rattle.cas_lasting.proofs.Numbered.{listed_low}

-- ---- the same folder

pub same_folder : {X : Type 0} (step : Image → Image → Type 0) (disk : X → Disk) (a b : X) → b ≡ a → During step (disk a) (disk b)
same_folder step disk a b same = subst (λ x. During step (disk a) (disk x)) (sym same) (no_call step (disk a))

pub tables_as : {X : Type 0} (step : Image → Image → Type 0) (disk : X → Disk) (a b y z : X) → b ≡ a → z ≡ y → During step (disk b) (disk y)
    → During step (disk a) (disk z)
tables_as step disk a b y z first last call = subst (λ x. During step (disk x) (disk z)) first (subst (λ x. During step (disk b) (disk x)) (sym last) call)

-- also where the number is called otherwise
pub up_to_as : (k l : ℕ) (a b : Disk) → k ≡ l → During (SameUpTo k) a b → During (SameUpTo l) a b
up_to_as k l a b same call = subst (λ n. During (SameUpTo n) a b) same call

-- ---- while a store is opened

no_manifest : (n : ℕ) → table_name n ≢ manifest_name
no_manifest n e = cc

stayed_listed : (entries : List ManifestEntry) (mutations : List Mutation) (d c : Image) → HasStayed entries mutations d c → SameListed entries d c
stayed_listed entries mutations d c stayed number is = stayed.stays (table_name number) (no_manifest number) is

opened_listed : (entries : List ManifestEntry) (mutations : List Mutation) (d c : Image) → MayBeOpened entries mutations d c → SameListed entries d c
opened_listed entries mutations d c (inl same) = λ number is. same (table_name number)
opened_listed entries mutations d c (inr stayed) = stayed_listed entries mutations d c stayed

made_listed : (shards : ℕ) (d c : Image) → MayBeMadeNew shards d c → SameListed (first_entries shards) d c
made_listed shards d c (inl changed) = λ number is. changed.others (table_name number) (no_manifest number)
made_listed shards d c (inr stayed) = stayed_listed (first_entries shards) [] d c stayed

-- ---- and then

-- the numbers of table files that the entries tell of go up to this one
abbrev pub AreUpTo : ℕ → List ManifestEntry → Type 0
AreUpTo last entries = AllByRecursion (λ k. k ≤ last) (said_by entries).numbers

then_listed : (entries : List ManifestEntry) (last : ℕ) (a b z : Disk) → AreUpTo last entries → During (SameListed entries) a b → During (SameUpTo last) b z
    → During (SameListed entries) a z
then_listed entries last a b z low first second =
    one_call_more (SameListed entries) (SameUpTo last) a b z first second (λ d c was mid same number is. same number (listed_low entries last low number is))
    (λ e d c was so_far mid same number is. same number (listed_low entries last low number is) ∙ so_far number is)

-- from the folder as it was found to that of the store that was opened
pub listed_opening : (shards : ℕ) (entries : List ManifestEntry) (mutations : List Mutation) (d : Image) (a b : Disk) → OpensAs shards entries mutations d
    → (IsStore entries mutations d → During (MayBeOpened entries mutations) a b) → (IsNew d → During (MayBeMadeNew shards) a b) → During (SameListed entries) a b
listed_opening shards entries mutations d a b (inl store) stays made =
    reworded (MayBeOpened entries mutations) (SameListed entries) a b (stays store) (λ e c was opened. opened_listed entries mutations e c opened)
listed_opening shards entries mutations d a b (inr (new, are, none)) stays made =
    subst (λ es. During (SameListed es) a b) (sym are)
    (reworded (MayBeMadeNew shards) (SameListed (first_entries shards)) a b (made new) (λ e c was opened. made_listed shards e c opened))

-- and to the one that is handed back
pub listed_through : (shards : ℕ) (entries : List ManifestEntry) (mutations : List Mutation) (d : Image) (last : ℕ) (a b z : Disk) → OpensAs shards entries mutations d
    → AreUpTo last entries → (IsStore entries mutations d → During (MayBeOpened entries mutations) a b) → (IsNew d → During (MayBeMadeNew shards) a b)
    → During (SameUpTo last) b z → During (SameListed entries) a z
listed_through shards entries mutations d last a b z opens low stays made runs =
    then_listed entries last a b z low (listed_opening shards entries mutations d a b opens stays made) runs

-- a folder that tells what is read of it, as it was found, tells it of the store that was opened
pub tells_through : (shards : ℕ) (entries : List ManifestEntry) (mutations : List Mutation) (d : Image) (a b : Disk) → OpensAs shards entries mutations d → a.reads d
    → (IsStore entries mutations d → During (MayBeOpened entries mutations) a b) → (IsNew d → During (MayBeMadeNew shards) a b) → Tells b
tells_through shards entries mutations d a b (inl store) reads stays made = (stays store).tells d reads
tells_through shards entries mutations d a b (inr (new, are, none)) reads stays made = (made new).tells d reads

-- what is left has the files that some image had before
pub from_before : (entries : List ManifestEntry) (a z : Disk) → During (SameListed entries) a z → (i : Image) → z.may_leave i
    → (b : Image) × a.may_leave b × SameListed entries b i
from_before entries a z call i left = ⊎_elim (λ was. (i, was, λ number is. refl)) (λ made. made) (left_after (SameListed entries) a z call i left)
