-- A folder of files on a disk: what its calls read, and what a crash may leave of it. Own.
use Rattle.std.specs.Prelude.{◌≡◌, ◌≢◌, ◌⊎◌, ℕ, ◌+◌, ◌-◌, ◌≤◌, max, false}
use Rattle.std.specs.Prelude.{List, [], ◌∷◌, ◌++◌, length, take, drop, Option, None, Some, unwrap_or, if◌then◌else◌}
use Rattle.cas_disk.specs.declared.name.Name.{Name}
use Rattle.cas_disk.specs.declared.name.Name.TheVariants.{Manifest}
use Rattle.cas_disk.specs.declared.name.Entry.{Entry}
use Rattle.cas_disk.specs.Names.{same_name, is_table}

-- what stands under each name: nothing, or a file's bytes
abbrev pub Image : Type 0
Image = Name → Option (List ℕ)

-- What is known of a folder. A folder that tells nothing has no image, so that what is said of each image says nothing of it.
pub record Disk : Type 1 where
  -- what its calls read: one image, where the folder tells it
  pub reads : Image → Type 0
  -- what a crash at this moment may leave
  pub may_leave : Image → Type 0
  -- this moment, a number that doesn't fall
  pub moment : ℕ
  -- what a crash at some moment from that one on may have left, within a call or between two
  pub left_since : ℕ → Image → Type 0
  -- a disk reads in one way, and as it reads it is one of its images
  pub one : (c d : Image) → reads c → reads d → (n : Name) → c n ≡ d n
  pub is_image : (c : Image) → reads c → may_leave c
  -- this moment is one of those since an earlier one, and the only one since itself
  pub counts_now : (t : ℕ) (c : Image) → t ≤ moment → may_leave c → left_since t c
  pub only_now : (c : Image) → left_since moment c → may_leave c

-- At every moment of a call each image is one from before it after this step. What might be left at
-- earlier moments still might have been, and a folder that tells what it reads goes on telling it.
pub record During (step : Image → Image → Type 0) (old new : Disk) : Type 0 where
  pub later : old.moment ≤ new.moment
  pub each : (t : ℕ) (c : Image) → t ≤ old.moment → new.left_since t c → old.left_since t c ⊎ ((d : Image) × old.may_leave d × step d c)
  pub keeps : (t : ℕ) (c : Image) → t ≤ old.moment → old.left_since t c → new.left_since t c
  pub tells : (d : Image) → old.reads d → (c : Image) × new.reads c

-- each of the new images is one of the old after this step
abbrev pub Follows : (Image → Image → Type 0) → (Image → Type 0) → (Image → Type 0) → Type 0
Follows step old new = (c : Image) → new c → (d : Image) × old d × step d c

-- nothing changes
abbrev pub Same : Image → Image → Type 0
Same d c = (k : Name) → c k ≡ d k

-- this change under this name, and none under another
pub record Changed (n : Name) (change : Option (List ℕ) → Option (List ℕ) → Type 0) (d c : Image) : Type 0 where
  pub here : change (d n) (c n)
  pub others : (k : Name) → k ≢ n → c k ≡ d k

-- the bytes of a file, none where it isn't there
abbrev pub bytes_of : Option (List ℕ) → List ℕ
bytes_of file = unwrap_or file []

-- these bytes in the place of those at `at`, and past the end: "abcd" with "xyz" at 2 is "abxyz"
abbrev pub put_at : ℕ → List ℕ → List ℕ → List ℕ
put_at at bytes file = take at file ++ bytes ++ drop (at + length bytes) file

-- A write of n bytes that isn't synced: the range may hold any bytes, as may all past the old end; all
-- else stays, and the length lies between the old and the new.
pub record Torn (at n : ℕ) (old new : List ℕ) : Type 0 where
  pub before : take (length (take at old)) new ≡ take at old
  pub after : take (length (drop (at + n) old)) (drop (at + n) new) ≡ drop (at + n) old
  pub no_shorter : length old ≤ length new
  pub no_longer : length new ≤ max (length old) (at + n)

-- What a crash may leave of one file.
-- After a write: one that is there may be torn, one that isn't stays so.
abbrev pub MayTear : ℕ → ℕ → Option (List ℕ) → Option (List ℕ) → Type 0
MayTear at n None new = new ≡ None
MayTear at n (Some old) new = (file : List ℕ) × (new ≡ Some file) × Torn at n old file

-- while it is made: what was there before, nothing, or a file without bytes
abbrev pub MayBeMade : Option (List ℕ) → Option (List ℕ) → Type 0
MayBeMade old new = (new ≡ old) ⊎ (new ≡ None) ⊎ (new ≡ Some [])

-- once it was made: nothing that was there before comes back
abbrev pub IsEmptyOrNone : Option (List ℕ) → Option (List ℕ) → Type 0
IsEmptyOrNone _ new = bytes_of new ≡ []

-- while it is removed: it is there as before, or not
abbrev pub MayGo : Option (List ℕ) → Option (List ℕ) → Type 0
MayGo old new = (new ≡ old) ⊎ (new ≡ None)

-- a draft: it is there or not, with any bytes
abbrev pub MayBeAnything : Option (List ℕ) → Option (List ℕ) → Type 0
MayBeAnything _ _ = Unit {0}

-- these bytes are the file
abbrev pub Is : List ℕ → Option (List ℕ) → Option (List ℕ) → Type 0
Is bytes _ new = new ≡ Some bytes

-- What a call reads of one file afterwards.
-- It is gone.
abbrev pub IsGone : Option (List ℕ) → Option (List ℕ) → Type 0
IsGone _ new = new ≡ None

-- the bytes stand there, in a file that reaches so far; of another nothing is said
abbrev pub Holds : ℕ → List ℕ → Option (List ℕ) → Option (List ℕ) → Type 0
Holds _ _ None _ = Unit {0}
Holds at bytes (Some old) new = at ≤ length old → new ≡ Some (put_at at bytes old)

-- A sync of n: under n a crash leaves what is read. That of the manifest makes removals last too; of
-- tables it says nothing, since one that isn't read may be a draft.
pub record IsSynced (n : Name) (read c : Image) : Type 0 where
  pub here : c n ≡ read n
  pub removed : n ≡ Manifest → (k : Name) → is_table k ≡ false → read k ≡ None → c k ≡ None

-- `count` bytes of the file at `at` were given. None are given only where none were asked for, or `at` is at the end or past it.
pub record Gives (file : List ℕ) (at count : ℕ) (into : List ℕ) : Type 0 where
  pub bytes : take count into ≡ take count (drop at file)
  pub within : count ≤ length file - at
  pub end : count ≡ 0 → (length into ≡ 0) ⊎ (length file ≤ at)

-- the lengths that a list gives for a name
abbrev pub sizes_of : Name → List Entry → List ℕ
sizes_of _ [] = []
sizes_of k (e ∷ entries) = if same_name e.name k then e.size ∷ sizes_of k entries else sizes_of k entries

-- the length of a file that is there
abbrev pub size_of : Option (List ℕ) → List ℕ
size_of None = []
size_of (Some file) = length file ∷ []

-- each file that is there stands in the list once, with its length, and no other
abbrev pub IsListing : Image → List Entry → Type 0
IsListing c entries = (k : Name) → sizes_of k entries ≡ size_of (c k)

-- a draft tells the bytes that it had, with these after them
abbrev pub Appends : List ℕ → (List ℕ → Type 0) → (List ℕ → Type 0) → Type 0
Appends bytes old new = (b : List ℕ) → new b → (a : List ℕ) × old a × (b ≡ a ++ bytes)

-- whatever a crash leaves, this file stands under this name
abbrev pub IsKept : Name → List ℕ → Disk → Type 0
IsKept n file disk = (c : Image) → disk.may_leave c → c n ≡ Some file

-- at every moment of a call each image that wasn't there before it is of this kind
abbrev pub Leaves : (Image → Type 0) → Disk → Disk → Type 0
Leaves P old new = During (λ _ c. P c) old new
