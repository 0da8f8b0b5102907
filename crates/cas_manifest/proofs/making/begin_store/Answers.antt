use Rattle.std.proofs.Common.{◌≡◌, List, [], ◌++◌, ap, sym, subst, ◌∙◌, arith}
use Rattle.cas_changes.specs.declared.entry.Entry.{Entry}
use Rattle.cas_changes.specs.Saying.{Saying, after, said_by}
use Rattle.cas_manifest.specs.Loading.{first_entry, first_entries}
use Rattle.cas_manifest.specs.Manifests.{Stands, place_of}
use Rattle.cas_manifest.proofs.Appends.{none_passed}
use Rattle.cas_manifest.proofs.Loads.{fits_first, short_first, said_first, begin_fault}
use Rattle.cas_manifest.proofs.making.begin_store.Goals as goal

pub append-requires-clause-short : goal.append-requires-clause-short
append-requires-clause-short g c = let two = short_first c.args.shards in omega (arith, two)

pub returns-in-Ok-clause-stands : goal.returns-in-Ok-clause-stands
returns-in-Ok-clause-stands g c =
    let items : c.push.new.self.items ≡ first_entries c.args.shards = c.in_ok-push.ensures.items ∙ ap (λ (l : List Entry). l ++ first_entries c.args.shards) c.new-entries.ensures.items in
    subst (λ (l : List Entry). Stands (place_of c.append.new.self) (g.F.Folder.disk c.append.new.folder) l) (sym items)
    (c.in-Ok.ensures.appended [] c.requires.stands (fits_first c.args.shards c.requires.shards))

pub returns-in-Ok-clause-first : goal.returns-in-Ok-clause-first
returns-in-Ok-clause-first g c =
    let items : c.push.new.self.items ≡ first_entries c.args.shards = c.in_ok-push.ensures.items ∙ ap (λ (l : List Entry). l ++ first_entries c.args.shards) c.new-entries.ensures.items in
    (c.in_default.ensures ∙ ap (λ (s : Saying). after s (first_entry c.args.shards)) c.nothing-said.ensures ∙ said_first c.args.shards ∙ ap said_by (sym items), items)

pub returns-in-Ok-clause-during : goal.returns-in-Ok-clause-during
returns-in-Ok-clause-during g c = c.append.ensures.during [] c.requires.stands (fits_first c.args.shards c.requires.shards)

pub returns-in-Err-append-clause-during : goal.returns-in-Err-append-clause-during
returns-in-Err-append-clause-during g c = c.append.ensures.during [] c.requires.stands (fits_first c.args.shards c.requires.shards)

pub returns-in-Err-append-clause-why : goal.returns-in-Err-append-clause-why
returns-in-Err-append-clause-why g c =
    let two = short_first c.args.shards in
    (begin_fault _ _ _ _ c.in-Err-append.fault
    (none_passed (place_of c.args.manifest) (first_entry c.args.shards) c.args.manifest.few (omega (arith, two, c.requires.room))) c.in-Err-append.ensures.outcome).0
