-- What was done to a folder in memory, the latest first: what its calls read then, and what a crash may leave. Own.
use Rattle.std.specs.Prelude.{◌≡◌, ◌⊎◌, ◌||◌, ℕ, ◌≤◌, nat_le, Bool, false, List, [], ◌∷◌, length, replicate, Option, None, Some, is_none, if◌then◌else◌}
use Rattle.cas_disk.specs.declared.name.Name.{Name}
use Rattle.cas_disk.specs.declared.name.Name.TheVariants.{Manifest, Table}
use Rattle.cas_disk.specs.declared.event.Stored.{Stored}
use Rattle.cas_disk.specs.declared.event.Event.{Event}
use Rattle.cas_disk.specs.declared.event.Event.TheVariants.{Create, Write, Sync, Remove, Draft, Admit}
use Rattle.cas_disk.specs.declared.event.Choice.{Choice}
use Rattle.cas_disk.specs.declared.event.Choice.TheVariants.{Old, New, Fill}
use Rattle.cas_disk.specs.Names.{same_name}
use Rattle.cas_disk.specs.Disk.{Image, Changed, MayTear, MayGo, MayBeAnything, Is, IsEmptyOrNone, IsSynced, put_at}

-- the files as an image
abbrev pub image_of : List Stored → Image
image_of [] _ = None
image_of (f ∷ files) k = if same_name f.name k then Some f.bytes.items else image_of files k

-- with this under one name
abbrev pub with_file : Name → Option (List ℕ) → Image → Image
with_file n file c k = if same_name n k then file else c k

-- a file that reaches so far, with these bytes there
abbrev pub written : ℕ → List ℕ → Option (List ℕ) → Option (List ℕ)
written _ _ None = None
written at bytes (Some file) = if nat_le at (length file) then Some (put_at at bytes file) else Some file

-- what is read after an event
abbrev pub after : Event → Image → Image
after (Create n) c = with_file n (Some []) c
after (Write n at bytes) c = with_file n (written at bytes.items (c n)) c
after (Sync _) c = c
after (Remove n) c = with_file n None c
after (Draft _) c = c
after (Admit number bytes) c = with_file (Table number) (Some bytes.items) c

abbrev pub now : Image → List Event → Image
now start [] = start
now start (event ∷ past) = after event (now start past)

-- what a crash may leave after an event, of what it might have left before
abbrev pub LeftAfter : Event → Image → (Image → Type 0) → Image → Type 0
LeftAfter (Create n) _ old c = (d : Image) × old d × Changed n IsEmptyOrNone d c
LeftAfter (Write n at bytes) _ old c = (d : Image) × old d × Changed n (MayTear at (length bytes.items)) d c
LeftAfter (Sync n) read old c = old c × IsSynced n read c
LeftAfter (Remove n) _ old c = (d : Image) × old d × Changed n MayGo d c
LeftAfter (Draft number) _ old c = (d : Image) × old d × Changed (Table number) MayBeAnything d c
LeftAfter (Admit number bytes) _ old c = (d : Image) × old d × Changed (Table number) (Is bytes.items) d c

-- what a crash may leave: all of the start is on the disk
abbrev pub Left : Image → List Event → Image → Type 0
Left start [] c = c ≡ start
Left start (event ∷ past) c = LeftAfter event (now start past) (Left start past) c

-- what a crash may have left at some moment since the one with t events
abbrev pub LeftSince : Image → List Event → ℕ → Image → Type 0
LeftSince start [] t c = Left start [] c
LeftSince start (event ∷ past) t c = Left start (event ∷ past) c ⊎ ((t ≤ length past) × LeftSince start past t c)

-- some names as in one image, the others as in another
abbrev pub mixed : (Name → Bool) → Image → Image → Image
mixed p c d k = if p k then c k else d k

-- a sync of n makes the file under this name last: n itself and, where n is the manifest, that files are gone
abbrev pub lasts : Name → Image → Name → Bool
lasts Manifest read k = same_name Manifest k || is_none (read k)
lasts n _ k = same_name n k

-- what a sync, and no other event, makes last
abbrev pub settled : Event → Image → Image → Image
settled (Sync n) read c = mixed (lasts n read) read c
settled _ _ c = c

-- the one image of a choice after a change: as before it, as after it, or after it with the written
-- range filled with this byte, and a draft there with this one byte
abbrev pub changed : Choice → Event → Image → Image
changed Old (Create n) c = with_file n None c
changed Old (Admit number bytes) c = with_file (Table number) (Some bytes.items) c
changed Old _ c = c
changed New event c = after event c
changed (Fill byte) (Write n at bytes) c = with_file n (written at (replicate (length bytes.items) byte) (c n)) c
changed (Fill byte) (Draft number) c = with_file (Table number) (Some (byte ∷ [])) c
changed (Fill _) event c = after event c

-- what a crash leaves by this choice for each change that isn't synced
abbrev pub chosen : Choice → Image → List Event → Image
chosen _ start [] = start
chosen choice start (event ∷ past) = settled event (now start past) (changed choice event (chosen choice start past))

-- writes to this file alone, none of them synced
abbrev pub WritesTo : Name → List Event → Type 0
WritesTo _ [] = Unit {0}
WritesTo n (Write m _ _ ∷ events) = (m ≡ n) × WritesTo n events
WritesTo _ _ = ⊥

-- whether an event may change what stands under this name
abbrev pub touches : Name → Event → Bool
touches n (Create m) = same_name m n
touches n (Write m _ _) = same_name m n
touches _ (Sync _) = false
touches n (Remove m) = same_name m n
touches n (Draft number) = same_name (Table number) n
touches n (Admit number _) = same_name (Table number) n
