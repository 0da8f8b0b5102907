use Rattle.std.proofs.Common.{inl, inr, refl, List, [], ◌++◌}
use Rattle.cas_disk.specs.Disk.{Image, During}
use Rattle.cas_atoms.specs.declared.atom.Mutation.{Mutation}
use Rattle.cas_changes.specs.declared.entry.Entry.{Entry}
use Rattle.cas_manifest.specs.Manifests.{place_of}
use Rattle.cas_manifest.specs.Loading.{first_entries}
use Rattle.cas_opening.specs.declared.stored.Stored.{Stored}
use Rattle.cas_opening.specs.Opening.{IsOfBytes, OpensAs, EndsWith, HasStayed}
use Rattle.cas_opening.proofs.Readings.{not_new}
use Rattle.cas_opening.proofs.Opens.{it_is, opened_read, opened_ends, refused_ends, only_read, read_and_opened, made_and_opened, no_store}
use Rattle.cas_opening.proofs.opening.open_to.Goals as goal

pub returns-in-Ok-clause-opens : goal.returns-in-Ok-clause-opens
returns-in-Ok-clause-opens g c first has image read bytes entries ms opens =
    let disk = g.F.Folder.disk in
    let s = c.in-Ok.stored in
    let (all, given, took, whole, noted, is) = c.in-Ok.ensures.read first has in (
      given,
      took,
      it_is c.args.shards (place_of s.manifest) s.entries.items entries all ms image bytes (disk c.read_store.new.folder) (is image read bytes) opens
          (λ (es : List Entry) (ns : List Mutation). EndsWith es ns given (disk c.open_stored.new.folder) c.open_stored.result)
          (λ keeps. opened_ends s.entries.items all given (disk c.open_stored.new.folder) c.open_stored.result c.open_stored.ensures.why (c.open_stored.ensures.opened all keeps noted) whole.above),
    )

pub returns-in-Ok-clause-stays : goal.returns-in-Ok-clause-stays
returns-in-Ok-clause-stays g c image read bytes entries ms store =
    let disk = g.F.Folder.disk in
    let s = c.in-Ok.stored in
    let (all, given, took, whole, noted, is) = c.in-Ok.ensures.read c.requires.taker.0 c.requires.taker.1 in
    read_and_opened entries ms (disk c.args.folder.now) (disk c.read_store.new.folder) (disk c.open_stored.new.folder)
    (c.read_store.ensures.untouched image read (not_new image bytes entries ms store))
    (it_is c.args.shards (place_of s.manifest) s.entries.items entries all ms image bytes (disk c.read_store.new.folder) (is image read bytes) (inl store)
    (λ (es : List Entry) (ns : List Mutation). During (HasStayed es ns) (disk c.read_store.new.folder) (disk c.open_stored.new.folder))
    (λ keeps. c.open_stored.ensures.during all keeps))

pub returns-in-Ok-clause-made : goal.returns-in-Ok-clause-made
returns-in-Ok-clause-made g c image read bytes new =
    let disk = g.F.Folder.disk in
    let s = c.in-Ok.stored in
    let (all, given, took, whole, noted, is) = c.in-Ok.ensures.read c.requires.taker.0 c.requires.taker.1 in
    made_and_opened c.args.shards (disk c.args.folder.now) (disk c.read_store.new.folder) (disk c.open_stored.new.folder) c.read_store.ensures.during
    (it_is c.args.shards (place_of s.manifest) s.entries.items (first_entries c.args.shards) all [] image bytes (disk c.read_store.new.folder) (is image read bytes)
    (inr (new, refl, refl)) (λ (es : List Entry) (ns : List Mutation). During (HasStayed es ns) (disk c.read_store.new.folder) (disk c.open_stored.new.folder))
    (λ keeps. c.open_stored.ensures.during all keeps))

pub returns-in-Ok-clause-untouched : goal.returns-in-Ok-clause-untouched
returns-in-Ok-clause-untouched g c image read bytes old none =
    let (all, given, took, whole, noted, is) = c.in-Ok.ensures.read c.requires.taker.0 c.requires.taker.1 in
    absurd (no_store c.args.shards c.in-Ok.stored.entries.items all image (is image read bytes).opens old none)

pub returns-in-Err-clause-opens : goal.returns-in-Err-clause-opens
returns-in-Err-clause-opens g c first has image read bytes entries ms opens =
    let (given, took, gave) = c.in-Err.ensures.gave first has image read bytes entries ms opens in
    (given, took, refused_ends Stored c.args.shards image bytes entries ms given (g.F.Folder.disk c.read_store.new.folder) c.in-Err.fault opens (c.in-Err.ensures.answers image read bytes) gave)

pub returns-in-Err-clause-stays : goal.returns-in-Err-clause-stays
returns-in-Err-clause-stays g c image read bytes entries ms store =
    let disk = g.F.Folder.disk in
    only_read entries ms (disk c.args.folder.now) (disk c.read_store.new.folder) (c.read_store.ensures.untouched image read (not_new image bytes entries ms store))

pub returns-in-Ok-clause-read : goal.returns-in-Ok-clause-read
returns-in-Ok-clause-read g c first has =
    let s = c.in-Ok.stored in
    let (all, given, took, whole, noted, is) = c.in-Ok.ensures.read first has in
    opened_read s.entries.items all given (λ (gs : List Mutation). g.T.TakesMutations.has_taken (first ++ gs) c.read_store.new.taker)
    (λ (es : List Entry) (ns : List Mutation). (image : Image) → (g.F.Folder.disk c.args.folder.now).reads image → IsOfBytes image → OpensAs c.args.shards es ns image)
    c.open_stored.result took whole c.in-Ok.ensures.follow (λ image read bytes. (is image read bytes).opens) c.open_stored.ensures.told
