-- Memory in the segment that waits, by the clauses of the log's.
use Rattle.std.proofs.Common.{refl}
use Rattle.cas_journal.proofs.Moving.{resting, spare_reserved}
use Rattle.cas_journal.proofs.Noting.{stay_noted}
use Rattle.cas_journal.proofs.journal.Journal.reserve_spare.Goals as goal

pub returns-in-Err-clause-lasts : goal.returns-in-Err-clause-lasts
returns-in-Err-clause-lasts g c t lasts =
    let disk = g.F.Folder.disk c.args.folder.now in
    resting c.args.self.now _ disk t refl (λ ns before ws ps is. is) (λ parts ms. refl) (λ last is. is) refl refl
    (stay_noted c.args.self.now.notes c.reserve_next.new.self c.reserve_next.ensures.shards c.reserve_next.ensures.know) lasts

pub returns-in_default-spare-clause-lasts : goal.returns-in_default-spare-clause-lasts
returns-in_default-spare-clause-lasts g c t lasts =
    let disk = g.F.Folder.disk c.args.folder.now in
    resting c.args.self.now _ disk t refl (λ ns before ws ps is. is) (λ parts ms. refl) (λ last is. is) refl refl
    (stay_noted c.args.self.now.notes c.reserve_next.new.self c.reserve_next.ensures.shards c.reserve_next.ensures.know) lasts

pub returns-in-Ok-clause-lasts : goal.returns-in-Ok-clause-lasts
returns-in-Ok-clause-lasts g c t lasts =
    let disk = g.F.Folder.disk c.args.folder.now in
    resting c.args.self.now _ disk t refl (λ ns before ws ps is. is) (λ parts ms. refl)
    (λ last. spare_reserved c.args.self.now.spare c.in-Some.log c.reserve.new.self c.in-Some.is c.reserve.ensures.place c.reserve.ensures.pushed disk last)
    refl refl (stay_noted c.args.self.now.notes c.reserve_next.new.self c.reserve_next.ensures.shards c.reserve_next.ensures.know) lasts

pub returns-in-Err-reserve-clause-lasts : goal.returns-in-Err-reserve-clause-lasts
returns-in-Err-reserve-clause-lasts g c t lasts =
    let disk = g.F.Folder.disk c.args.folder.now in
    resting c.args.self.now _ disk t refl (λ ns before ws ps is. is) (λ parts ms. refl)
    (λ last. spare_reserved c.args.self.now.spare c.in-Some.log c.reserve.new.self c.in-Some.is c.reserve.ensures.place c.reserve.ensures.pushed disk last)
    refl refl (stay_noted c.args.self.now.notes c.reserve_next.new.self c.reserve_next.ensures.shards c.reserve_next.ensures.know) lasts
