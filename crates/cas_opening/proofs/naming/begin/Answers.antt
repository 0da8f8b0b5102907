use Rattle.std.proofs.Common.{◌≡◌, ◌+◌, ◌≤◌, ◌++◌, ◌∷◌, [], ℕ, Bool, List, ◌∙◌, refl, ap, sym, subst, arith}
use Rattle.cas_changes.specs.declared.entry.Entry.{Entry}
use Rattle.cas_changes.specs.declared.entry.Entry.TheVariants.{NewSegment}
use Rattle.cas_changes.specs.declared.said.TheConstants.{SEGMENT_LIMIT}
use Rattle.cas_changes.specs.Saying.{Saying, said_by, after}
use Rattle.cas_journal.specs.Notes.{Noted}
use Rattle.cas_journal.specs.declared.notes.Notes.{Notes}
use Rattle.cas_journal.proofs.Noting.{named_noted}
use Rattle.cas_opening.specs.Inner.Reading.{AreNotedIn}
use Rattle.cas_manifest.specs.Manifests.{place_of}
use Rattle.cas_opening.specs.Inner.Naming.{IsNamed}
use Rattle.cas_opening.specs.Opening.{next_segment, found_with}
use Rattle.cas_opening.proofs.Names.{begun_stayed, begin_stayed, begin_named, begin_unnamed, begin_none, told_none, told_named, none_above_log, none_above_manifest, none_above_at}
use Rattle.cas_opening.proofs.naming.begin.Goals as goal

-- the number of the next segment
is_next : (s : Saying) (entries : List Entry) (last : ℕ) → last ≡ s.last_segment → s ≡ said_by entries → last + 1 ≡ next_segment entries
is_next s entries last is says = ap (λ (k : ℕ). k + 1) (is ∙ ap (λ (u : Saying). u.last_segment) says)

pub returns-then-last-ge-SEGMENT_LIMIT-clause-begun : goal.returns-then-last-ge-SEGMENT_LIMIT-clause-begun
returns-then-last-ge-SEGMENT_LIMIT-clause-begun g c entries ms keeps says noted =
    let disk = g.F.Folder.disk in
    let most : SEGMENT_LIMIT ≤ c.args.said.last_segment = omega (arith, c.last_segment-last.ensures, c.if-last-ge-SEGMENT_LIMIT.true) in
    begin_none entries ms c.args.manifest (disk c.args.folder.now) c.args.said c.new.result keeps says most c.new.ensures.manifest c.new.ensures.log c.new.ensures.spare
    (c.new.ensures.last ∙ c.last_segment-last.ensures) (subst (λ (n : Notes). AreNotedIn n (said_by entries) ms) (sym c.new.ensures.notes) noted)

pub returns-then-last-ge-SEGMENT_LIMIT-clause-free : goal.returns-then-last-ge-SEGMENT_LIMIT-clause-free
returns-then-last-ge-SEGMENT_LIMIT-clause-free g c =
    none_above_at c.args.said.last_segment c.new.result.last_segment (g.F.Folder.disk c.args.folder.now) (c.new.ensures.last ∙ c.last_segment-last.ensures) c.requires.none

pub begin_segment-requires-clause-absent : goal.begin_segment-requires-clause-absent
begin_segment-requires-clause-absent g c image read =
    c.requires.none image ((g.F.Folder.disk c.args.folder.now).is_image image read) (c.last_segment-last.result + 1) (omega (arith, c.last_segment-last.ensures))

pub returns-in-Err-clause-during : goal.returns-in-Err-clause-during
returns-in-Err-clause-during g c entries ms keeps says =
    let disk = g.F.Folder.disk in
    begun_stayed entries ms (place_of c.args.manifest) (c.last_segment-last.result + 1) (is_next c.args.said entries c.last_segment-last.result c.last_segment-last.ensures says)
    (disk c.args.folder.now) (disk c.begin_segment.new.folder) keeps c.begin_segment.ensures.during

pub returns-in-Err-name_segment-clause-during : goal.returns-in-Err-name_segment-clause-during
returns-in-Err-name_segment-clause-during g c entries ms keeps says =
    let disk = g.F.Folder.disk in
    begin_stayed entries ms (place_of c.args.manifest) (c.last_segment-last.result + 1) (is_next c.args.said entries c.last_segment-last.result c.last_segment-last.ensures says)
    (disk c.args.folder.now) (disk c.begin_segment.new.folder) (disk c.name_segment.new.folder) keeps c.in-Ok.ensures.fresh.allowed
    c.in-Ok.log c.in-Ok.ensures.fresh.number c.in-Ok.ensures.begun c.begin_segment.ensures.during (c.name_segment.ensures.during entries)

pub returns-then-not-is_named-clause-begun : goal.returns-then-not-is_named-clause-begun
returns-then-not-is_named-clause-begun g c entries ms keeps says noted =
    let disk = g.F.Folder.disk in
    let n = c.last_segment-last.result + 1 in
    begin_unnamed entries ms (place_of c.args.manifest) n (is_next c.args.said entries c.last_segment-last.result c.last_segment-last.ensures says)
    (disk c.args.folder.now) (disk c.begin_segment.new.folder) (disk c.name_segment.new.folder) keeps c.in-Ok.ensures.fresh.allowed
    c.in-Ok.log c.in-Ok.ensures.fresh.number c.in-Ok.ensures.begun c.begin_segment.ensures.during
    c.args.said says c.new-journal.result c.name_segment.new.manifest c.new-journal.ensures.manifest c.new-journal.ensures.last
    (λ stands fits. subst (λ (b : Bool). IsNamed entries (NewSegment n) (place_of c.args.manifest) (place_of c.name_segment.new.manifest) (disk c.begin_segment.new.folder) (disk c.name_segment.new.folder) b)
    c.if-not-is_named.true (c.in-Ok-name_segment.ensures.named entries stands fits))
    c.new-journal.ensures.log c.new-journal.ensures.spare
    (subst (λ (n : Notes). AreNotedIn n (said_by entries) ms) (sym c.new-journal.ensures.notes) noted)

pub returns-then-not-is_named-clause-free : goal.returns-then-not-is_named-clause-free
returns-then-not-is_named-clause-free g c =
    let disk = g.F.Folder.disk in
    let n = c.last_segment-last.result + 1 in
    none_above_at n c.new-journal.result.last_segment (disk c.name_segment.new.folder) c.new-journal.ensures.last
    (none_above_manifest n (disk c.begin_segment.new.folder) (disk c.name_segment.new.folder) c.name_segment.ensures.others
    (none_above_log c.args.said.last_segment n (disk c.args.folder.now) (disk c.begin_segment.new.folder) (omega (arith, c.last_segment-last.ensures)) c.begin_segment.ensures.during c.requires.none))

pub returns-then-not-is_named-clause-during : goal.returns-then-not-is_named-clause-during
returns-then-not-is_named-clause-during g c entries ms keeps says =
    let disk = g.F.Folder.disk in
    begin_stayed entries ms (place_of c.args.manifest) (c.last_segment-last.result + 1) (is_next c.args.said entries c.last_segment-last.result c.last_segment-last.ensures says)
    (disk c.args.folder.now) (disk c.begin_segment.new.folder) (disk c.name_segment.new.folder) keeps c.in-Ok.ensures.fresh.allowed
    c.in-Ok.log c.in-Ok.ensures.fresh.number c.in-Ok.ensures.begun c.begin_segment.ensures.during (c.name_segment.ensures.during entries)

pub returns-in-Err-take-clause-during : goal.returns-in-Err-take-clause-during
returns-in-Err-take-clause-during g c entries ms keeps says =
    let disk = g.F.Folder.disk in
    begin_stayed entries ms (place_of c.args.manifest) (c.last_segment-last.result + 1) (is_next c.args.said entries c.last_segment-last.result c.last_segment-last.ensures says)
    (disk c.args.folder.now) (disk c.begin_segment.new.folder) (disk c.name_segment.new.folder) keeps c.in-Ok.ensures.fresh.allowed
    c.in-Ok.log c.in-Ok.ensures.fresh.number c.in-Ok.ensures.begun c.begin_segment.ensures.during (c.name_segment.ensures.during entries)

pub returns-clause-begun : goal.returns-clause-begun
returns-clause-begun g c entries ms keeps says noted =
    let disk = g.F.Folder.disk in
    let n = c.last_segment-last.result + 1 in
    begin_named entries ms (place_of c.args.manifest) n (is_next c.args.said entries c.last_segment-last.result c.last_segment-last.ensures says)
    (disk c.args.folder.now) (disk c.begin_segment.new.folder) (disk c.name_segment.new.folder) keeps c.in-Ok.ensures.fresh.allowed
    c.in-Ok.log c.in-Ok.ensures.fresh.number c.in-Ok.ensures.begun c.begin_segment.ensures.during
    c.args.said says c.new-journal-2.result c.name_segment.new.manifest c.new-journal-2.ensures.manifest c.new-journal-2.ensures.last
    (λ stands fits. subst (λ (b : Bool). IsNamed entries (NewSegment n) (place_of c.args.manifest) (place_of c.name_segment.new.manifest) (disk c.begin_segment.new.folder) (disk c.name_segment.new.folder) b)
    c.if-not-is_named.false (c.in-Ok-name_segment.ensures.named entries stands fits))
    (c.name_segment.ensures.during entries) c.take.new.self c.in_default.ensures c.new-journal-2.ensures.log c.new-journal-2.ensures.spare
    (λ parts long all. subst (λ (n : Notes). Noted n (found_with entries ms) (after (said_by entries) (NewSegment (c.last_segment-last.result + 1))) (parts ++ [] ∷ [])) (sym c.new-journal-2.ensures.notes)
    (named_noted c.args.notes c.args.notes c.begin.new.self (found_with entries ms) (said_by entries) (c.last_segment-last.result + 1) refl c.begin.ensures.shards c.begin.ensures.know parts (noted parts long all)))

pub returns-clause-free : goal.returns-clause-free
returns-clause-free g c =
    let disk = g.F.Folder.disk in
    let n = c.last_segment-last.result + 1 in
    none_above_at n c.new-journal-2.result.last_segment (disk c.name_segment.new.folder) c.new-journal-2.ensures.last
    (none_above_manifest n (disk c.begin_segment.new.folder) (disk c.name_segment.new.folder) c.name_segment.ensures.others
    (none_above_log c.args.said.last_segment n (disk c.args.folder.now) (disk c.begin_segment.new.folder) (omega (arith, c.last_segment-last.ensures)) c.begin_segment.ensures.during c.requires.none))

pub returns-clause-during : goal.returns-clause-during
returns-clause-during g c entries ms keeps says =
    let disk = g.F.Folder.disk in
    begin_stayed entries ms (place_of c.args.manifest) (c.last_segment-last.result + 1) (is_next c.args.said entries c.last_segment-last.result c.last_segment-last.ensures says)
    (disk c.args.folder.now) (disk c.begin_segment.new.folder) (disk c.name_segment.new.folder) keeps c.in-Ok.ensures.fresh.allowed
    c.in-Ok.log c.in-Ok.ensures.fresh.number c.in-Ok.ensures.begun c.begin_segment.ensures.during (c.name_segment.ensures.during entries)

pub returns-then-last-ge-SEGMENT_LIMIT-clause-told : goal.returns-then-last-ge-SEGMENT_LIMIT-clause-told
returns-then-last-ge-SEGMENT_LIMIT-clause-told g c entries says =
    let next = is_next c.args.said entries c.last_segment-last.result c.last_segment-last.ensures says in
    told_none entries c.args.said c.new.result says (omega (arith, next, c.new.ensures.last))

pub returns-then-not-is_named-clause-told : goal.returns-then-not-is_named-clause-told
returns-then-not-is_named-clause-told g c entries says =
    let next = is_next c.args.said entries c.last_segment-last.result c.last_segment-last.ensures says in
    told_none entries c.args.said c.new-journal.result says (omega (arith, next, c.new-journal.ensures.last))

pub returns-clause-told : goal.returns-clause-told
returns-clause-told g c entries says =
    told_named entries (c.last_segment-last.result + 1) (is_next c.args.said entries c.last_segment-last.result c.last_segment-last.ensures says) c.in-Ok.ensures.fresh.allowed
    c.args.said c.take.new.self c.new-journal-2.result says c.in_default.ensures c.new-journal-2.ensures.last
