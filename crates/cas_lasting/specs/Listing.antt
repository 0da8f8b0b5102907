-- Which table files a store's manifest lists, and what they are, in what a crash leaves of its folder (own).
use Rattle.std.specs.Prelude.{◌≡◌, ◌≤◌, ℕ, List, ◌++◌, Some}
use Rattle.std.specs.List.{AllByRecursion}
use Rattle.cas_disk.specs.declared.name.Name.TheVariants.{Manifest as manifest_name, Table as table_name}
use Rattle.cas_disk.specs.Disk.{Disk, During, Image}
use Rattle.cas_atoms.specs.declared.atom.Mutation.{Mutation}
use Rattle.cas_changes.specs.Saying.{said_by}
use Rattle.cas_changes.specs.declared.entry.Entry.{Entry as ManifestEntry}
use Rattle.cas_changes.specs.declared.entry.Entry.TheVariants as entry
use Rattle.cas_manifest.specs.File.{IsManifest}
use Rattle.cas_journal.specs.Stores.{Told}
use Rattle.cas_opening.specs.Opening.{IsListedTable}
use Rattle.cas_lasting.specs.History.{History}
use Rattle.cas_lasting.specs.Nodes.{State, StandsFor, LastsFor}

-- ---- the files

-- each table file that these entries list of a table in a shard is in the second image what it is in the first: all of its bytes, under its number
abbrev pub SameListed : List ManifestEntry → Image → Image → Type 0
SameListed entries d c = (number : ℕ) → IsListedTable (said_by entries) number → c (table_name number) ≡ d (table_name number)

-- each table file of a number up to this one is in the second image what it is in the first
abbrev pub SameUpTo : ℕ → Image → Image → Type 0
SameUpTo last d c = (n : ℕ) → n ≤ last → c (table_name n) ≡ d (table_name n)

-- ---- the list of them

-- an entry that lists no table file and removes none: the definition of a table or of columns, or the name of a segment of the log
abbrev pub ListsNone : ManifestEntry → Type 0
ListsNone (entry.Schema t) = Unit {0}
ListsNone (entry.AddColumns table columns) = Unit {0}
ListsNone (entry.NewSegment n) = Unit {0}
ListsNone _ = ⊥

-- the manifest of the image has these entries
abbrev pub HasEntries : List ManifestEntry → Image → Type 0
HasEntries entries c = (file : List ℕ) × (c manifest_name ≡ Some file) × IsManifest entries file

-- the manifest has these entries, and behind them only such as list no table file
abbrev pub HasBehind : List ManifestEntry → Image → Type 0
HasBehind entries c = (more : List ManifestEntry) × AllByRecursion ListsNone more × HasEntries (entries ++ more) c

-- the manifest of the second image lists what that of the first lists: it has its entries, and behind them only such as list none
abbrev pub SameListing : Image → Image → Type 0
SameListing d c = (entries : List ManifestEntry) → HasEntries entries d → HasBehind entries c

-- at each moment of a call the manifest lists the table files that it listed before, whichever history the store stood for
abbrev pub KeepsListing : State → Disk → Disk → Type 0
KeepsListing s old new = (h : History) (found : List Mutation) (told : Told) → StandsFor h s → LastsFor h found s old told → During SameListing old new
