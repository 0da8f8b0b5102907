use Rattle.std.proofs.Common.{refl, sym, subst, inl, List, [], ◌++◌}
use Rattle.std.proofs.lemmas.List.{append-nil}
use Rattle.cas_atoms.specs.declared.atom.Mutation.{Mutation}
use Rattle.cas_disk.specs.declared.name.Name.TheVariants.{Manifest as manifest_name}
use Rattle.cas_disk.proofs.WrittenLasts.{then_still}
use Rattle.cas_files.proofs.Files.{same_more}
use Rattle.cas_changes.specs.Saying.{Saying, IsSaid}
use Rattle.cas_manifest.specs.Manifests.{place_of}
use Rattle.cas_manifest.specs.Loading.{MayBeNewStore}
use Rattle.cas_journal.specs.declared.notes.Notes.{Notes}
use Rattle.cas_opening.specs.Inner.Reading.{AreNotedIn}
use Rattle.cas_opening.specs.declared.stored.Stored.{Stored}
use Rattle.cas_opening.proofs.Saids.{sound}
use Rattle.cas_opening.proofs.Readings.{is_whole, is_read, is_refused, gave_front, gave_none}
use Rattle.cas_opening.proofs.reading.read_store.Goals as goal

pub replay_said-requires : goal.replay_said-requires
replay_said-requires g c = subst (λ (s : Saying). IsSaid s) (sym c.in-Ok.ensures.said) (sound c.in-Ok.loaded.2.items c.in-Ok.ensures.stands.follow).said

pub returns-in-Ok-replay_said-clause-read : goal.returns-in-Ok-replay_said-clause-read
returns-in-Ok-replay_said-clause-read g c first has =
    let disk = g.F.Folder.disk in
    let (given, took, r, noted) = c.in-Ok-replay_said.ensures.replayed first has in (
      r.all,
      given,
      took,
      is_whole c.in-Ok.loaded.1 c.in-Ok.loaded.2.items r.all given c.in-Ok.ensures.said c.in-Ok.ensures.stands.follow c.in-Ok.ensures.made r.are r.above,
      subst (λ (u : Saying). AreNotedIn c.in-Ok-replay_said.notes u r.all) c.in-Ok.ensures.said noted,
      λ image read bytes.
          is_read c.args.shards (place_of c.in-Ok.loaded.0) c.in-Ok.loaded.1 c.in-Ok.loaded.2.items image bytes (disk c.args.folder.now) (disk c.load.new.folder) (disk c.replay_said.new.folder) read
          (c.in-Ok.ensures.loads image read) c.in-Ok.ensures.said (c.load.ensures.untouched image read) (c.load.ensures.reads image read) (c.load.ensures.during.tells image read)
          r.all c.in-Ok.ensures.stands c.in-Ok.loaded.0.within r.read c.in-Ok-replay_said.ensures.lasts c.replay_said.ensures.reads
          c.replay_said.ensures.during,
    )

pub returns-in-Ok-replay_said-clause-answers : goal.returns-in-Ok-replay_said-clause-answers
returns-in-Ok-replay_said-clause-answers g c image read bytes =
    let disk = g.F.Folder.disk in
    let (given, took, r, noted) = c.in-Ok-replay_said.ensures.replayed c.requires.taker.0 c.requires.taker.1 in
    let is = is_read c.args.shards (place_of c.in-Ok.loaded.0) c.in-Ok.loaded.1 c.in-Ok.loaded.2.items image bytes (disk c.args.folder.now) (disk c.load.new.folder) (disk c.replay_said.new.folder) read
    (c.in-Ok.ensures.loads image read) c.in-Ok.ensures.said (c.load.ensures.untouched image read) (c.load.ensures.reads image read) (c.load.ensures.during.tells image read)
    r.all c.in-Ok.ensures.stands c.in-Ok.loaded.0.within r.read c.in-Ok-replay_said.ensures.lasts c.replay_said.ensures.reads
    c.replay_said.ensures.during in
    (c.in-Ok.loaded.2.items, r.all, is.opens)

pub returns-in-Ok-replay_said-clause-during : goal.returns-in-Ok-replay_said-clause-during
returns-in-Ok-replay_said-clause-during g c =
    let disk = g.F.Folder.disk in
    then_still manifest_name (MayBeNewStore c.args.shards) (disk c.args.folder.now) (disk c.load.new.folder) (disk c.replay_said.new.folder) (λ file. inl refl)
    c.load.ensures.during c.replay_said.ensures.during

pub returns-in-Ok-replay_said-clause-untouched : goal.returns-in-Ok-replay_said-clause-untouched
returns-in-Ok-replay_said-clause-untouched g c image read old =
    let disk = g.F.Folder.disk in
    same_more (disk c.args.folder.now) (disk c.load.new.folder) (disk c.replay_said.new.folder) (c.load.ensures.untouched image read old) c.replay_said.ensures.during

pub returns-in-Err-replay_said-clause-answers : goal.returns-in-Err-replay_said-clause-answers
returns-in-Err-replay_said-clause-answers g c image read bytes =
    let disk = g.F.Folder.disk in
    is_refused c.args.shards (place_of c.in-Ok.loaded.0) c.in-Ok.loaded.1 c.in-Ok.loaded.2.items image bytes (disk c.args.folder.now) (disk c.load.new.folder) (disk c.replay_said.new.folder) read
    (c.in-Ok.ensures.loads image read) c.in-Ok.ensures.said (c.load.ensures.untouched image read) (c.load.ensures.reads image read) (c.load.ensures.during.tells image read)
    Stored Notes (λ (given : List Mutation). g.T.TakesMutations.has_taken (c.requires.taker.0 ++ given) c.replay_said.new.taker) c.in-Err-replay_said.fault
    (c.in-Err-replay_said.ensures.exact c.requires.taker.0 c.requires.taker.1)

pub returns-in-Err-replay_said-clause-gave : goal.returns-in-Err-replay_said-clause-gave
returns-in-Err-replay_said-clause-gave g c first has image read bytes =
    let disk = g.F.Folder.disk in
    gave_front c.args.shards (place_of c.in-Ok.loaded.0) c.in-Ok.loaded.1 c.in-Ok.loaded.2.items image bytes (disk c.args.folder.now) (disk c.load.new.folder) (disk c.replay_said.new.folder) read
    (c.in-Ok.ensures.loads image read) c.in-Ok.ensures.said (c.load.ensures.untouched image read) (c.load.ensures.reads image read) (c.load.ensures.during.tells image read)
    Notes (λ (given : List Mutation). g.T.TakesMutations.has_taken (first ++ given) c.replay_said.new.taker) (c.replay_said.ensures.taken first has) c.in-Err-replay_said.fault
    (c.in-Err-replay_said.ensures.exact first has)

pub returns-in-Err-clause-gave : goal.returns-in-Err-clause-gave
returns-in-Err-clause-gave g c first has image read bytes entries ms opens =
    ([], subst (λ (l : List Mutation). g.T.TakesMutations.has_taken l c.args.taker.now) (sym (append-nil first)) has, gave_none entries ms _)

pub returns-in-Err-replay_said-clause-during : goal.returns-in-Err-replay_said-clause-during
returns-in-Err-replay_said-clause-during g c =
    let disk = g.F.Folder.disk in
    then_still manifest_name (MayBeNewStore c.args.shards) (disk c.args.folder.now) (disk c.load.new.folder) (disk c.replay_said.new.folder) (λ file. inl refl)
    c.load.ensures.during c.replay_said.ensures.during

pub returns-in-Err-replay_said-clause-untouched : goal.returns-in-Err-replay_said-clause-untouched
returns-in-Err-replay_said-clause-untouched g c image read old =
    let disk = g.F.Folder.disk in
    same_more (disk c.args.folder.now) (disk c.load.new.folder) (disk c.replay_said.new.folder) (c.load.ensures.untouched image read old) c.replay_said.ensures.during
