-- Which files are removed. Own.
use Rattle.std.specs.Prelude.{◌≡◌, ℕ, Bool, true, false, List, None}
use Rattle.cas_disk.specs.declared.name.Name.{Name}
use Rattle.cas_disk.specs.declared.name.Name.TheVariants.{Manifest as manifest_name, Log as log_name, Table as table_name, Import as import_name}
use Rattle.cas_disk.specs.Disk.{Image, Disk}
use Rattle.cas_changes.specs.Saying.{Saying, is_listed}
use Rattle.cas_opening.specs.Opening.{Stays}

-- whether a file stays, by the numbers of the listed segments and of the listed tables
abbrev pub stays_of : List ℕ → List ℕ → Name → Bool
stays_of segments tables manifest_name = true
stays_of segments tables (log_name n) = is_listed segments n
stays_of segments tables (table_name n) = is_listed tables n
stays_of segments tables (import_name n) = true

-- each file that stays is as it was
abbrev pub Sweeps : (Name → Bool) → Image → Image → Type 0
Sweeps stays d c = (n : Name) → stays n ≡ true → c n ≡ d n

-- the same, by what is said
abbrev pub Spares : Saying → Image → Image → Type 0
Spares s d c = (n : Name) → Stays s n → c n ≡ d n

-- whatever a crash leaves, only listed segments are there
abbrev pub HasOnlyListed : List ℕ → Disk → Type 0
HasOnlyListed segments disk = (c : Image) → disk.may_leave c → (n : ℕ) → is_listed segments n ≡ false → c (log_name n) ≡ None
