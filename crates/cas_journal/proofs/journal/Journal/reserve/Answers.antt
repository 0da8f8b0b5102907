-- Memory in the segment that is written, by the clauses of the log's.
use Rattle.std.proofs.Common.{Option, refl, sym, ap}
use Rattle.cas_log.specs.declared.log.Log.{Log}
use Rattle.cas_journal.specs.Journals.{all_parts}
use Rattle.cas_journal.proofs.Moving.{resting, writes_reserved}
use Rattle.cas_journal.proofs.Noting.{stay_noted}
use Rattle.cas_journal.proofs.journal.Journal.reserve.Goals as goal

pub returns-in-Err-clause-lasts : goal.returns-in-Err-clause-lasts
returns-in-Err-clause-lasts g c t lasts =
    let disk = g.F.Folder.disk c.args.folder.now in
    resting c.args.self.now _ disk t refl (λ ns before ws ps is. is) (λ parts ms. refl) (λ last is. is) refl refl
    (stay_noted c.args.self.now.notes c.reserve.new.self c.reserve.ensures.shards c.reserve.ensures.know) lasts

pub returns-in_default-log-clause-lasts : goal.returns-in_default-log-clause-lasts
returns-in_default-log-clause-lasts g c t lasts =
    let disk = g.F.Folder.disk c.args.folder.now in
    resting c.args.self.now _ disk t refl (λ ns before ws ps is. is) (λ parts ms. refl) (λ last is. is) refl refl
    (stay_noted c.args.self.now.notes c.reserve.new.self c.reserve.ensures.shards c.reserve.ensures.know) lasts

pub returns-in-Ok-clause-lasts : goal.returns-in-Ok-clause-lasts
returns-in-Ok-clause-lasts g c t lasts =
    let disk = g.F.Folder.disk c.args.folder.now in
    resting c.args.self.now _ disk t refl
    (λ ns before ws ps. writes_reserved c.args.self.now.log c.in-Some.log c.reserve-2.new.self c.in-Some.is c.reserve-2.ensures.place c.reserve-2.ensures.pushed disk ns before ws ps)
    (λ parts ms. sym (ap (λ (o : Option Log). all_parts o parts ms) c.in-Some.is)) (λ last is. is)
    refl refl (stay_noted c.args.self.now.notes c.reserve.new.self c.reserve.ensures.shards c.reserve.ensures.know) lasts

pub returns-in-Err-reserve-clause-lasts : goal.returns-in-Err-reserve-clause-lasts
returns-in-Err-reserve-clause-lasts g c t lasts =
    let disk = g.F.Folder.disk c.args.folder.now in
    resting c.args.self.now _ disk t refl
    (λ ns before ws ps. writes_reserved c.args.self.now.log c.in-Some.log c.reserve-2.new.self c.in-Some.is c.reserve-2.ensures.place c.reserve-2.ensures.pushed disk ns before ws ps)
    (λ parts ms. sym (ap (λ (o : Option Log). all_parts o parts ms) c.in-Some.is)) (λ last is. is)
    refl refl (stay_noted c.args.self.now.notes c.reserve.new.self c.reserve.ensures.shards c.reserve.ensures.know) lasts
