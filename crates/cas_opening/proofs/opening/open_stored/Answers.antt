use Rattle.std.proofs.Common.{sym, subst}
use Rattle.cas_disk.specs.Disk.{During}
use Rattle.cas_changes.specs.Saying.{Saying, IsSaid, said_by}
use Rattle.cas_manifest.specs.Manifests.{place_of}
use Rattle.cas_opening.specs.Inner.Sweeping.{Spares}
use Rattle.cas_opening.proofs.Saids.{sound}
use Rattle.cas_opening.proofs.Keeps.{spares_keeps}
use Rattle.cas_opening.proofs.Names.{none_above_listed, stayed_more}
use Rattle.cas_opening.proofs.Opens.{swept_stayed}
use Rattle.cas_opening.proofs.opening.open_stored.Goals as goal

pub sweep-requires : goal.sweep-requires
sweep-requires g c = subst (λ (s : Saying). IsSaid s) (sym c.requires.said) (sound c.args.stored.entries.items c.requires.follow).said

pub returns-in-Err-clause-during : goal.returns-in-Err-clause-during
returns-in-Err-clause-during g c ms keeps =
    let disk = g.F.Folder.disk in
    let es = c.args.stored.entries.items in
    swept_stayed es ms (place_of c.args.stored.manifest) (disk c.args.folder.now) (disk c.sweep.new.folder) keeps
    (subst (λ (s : Saying). During (Spares s) (disk c.args.folder.now) (disk c.sweep.new.folder)) c.requires.said c.sweep.ensures.during)

pub begin-requires-clause-none : goal.begin-requires-clause-none
begin-requires-clause-none g c =
    none_above_listed c.args.stored.entries.items c.args.stored.said (g.F.Folder.disk c.sweep.new.folder) c.requires.follow c.requires.said c.in_default.ensures.gone

pub returns-in-Ok-clause-opened : goal.returns-in-Ok-clause-opened
returns-in-Ok-clause-opened g c ms keeps noted =
    let disk = g.F.Folder.disk in
    let es = c.args.stored.entries.items in
    let swept : During (Spares (said_by es)) (disk c.args.folder.now) (disk c.sweep.new.folder) =
    subst (λ (s : Saying). During (Spares s) (disk c.args.folder.now) (disk c.sweep.new.folder)) c.requires.said c.sweep.ensures.during in
    c.in-Ok.ensures.begun es ms (spares_keeps (place_of c.args.stored.manifest) es ms (disk c.args.folder.now) (disk c.sweep.new.folder) swept keeps) c.requires.said noted

pub returns-in-Ok-clause-during : goal.returns-in-Ok-clause-during
returns-in-Ok-clause-during g c ms keeps =
    let disk = g.F.Folder.disk in
    let es = c.args.stored.entries.items in
    let swept : During (Spares (said_by es)) (disk c.args.folder.now) (disk c.sweep.new.folder) =
    subst (λ (s : Saying). During (Spares s) (disk c.args.folder.now) (disk c.sweep.new.folder)) c.requires.said c.sweep.ensures.during in
    let place = place_of c.args.stored.manifest in
    stayed_more es ms (disk c.args.folder.now) (disk c.sweep.new.folder) (disk c.begin.new.folder) (swept_stayed es ms place (disk c.args.folder.now) (disk c.sweep.new.folder) keeps swept)
    (c.begin.ensures.during es ms (spares_keeps place es ms (disk c.args.folder.now) (disk c.sweep.new.folder) swept keeps) c.requires.said)

pub returns-clause-during : goal.returns-clause-during
returns-clause-during g c ms keeps =
    let disk = g.F.Folder.disk in
    let es = c.args.stored.entries.items in
    let swept : During (Spares (said_by es)) (disk c.args.folder.now) (disk c.sweep.new.folder) =
    subst (λ (s : Saying). During (Spares s) (disk c.args.folder.now) (disk c.sweep.new.folder)) c.requires.said c.sweep.ensures.during in
    let place = place_of c.args.stored.manifest in
    stayed_more es ms (disk c.args.folder.now) (disk c.sweep.new.folder) (disk c.begin.new.folder) (swept_stayed es ms place (disk c.args.folder.now) (disk c.sweep.new.folder) keeps swept)
    (c.begin.ensures.during es ms (spares_keeps place es ms (disk c.args.folder.now) (disk c.sweep.new.folder) swept keeps) c.requires.said)

pub returns-in-Ok-clause-told : goal.returns-in-Ok-clause-told
returns-in-Ok-clause-told g c = c.in-Ok.ensures.told c.args.stored.entries.items c.requires.said
