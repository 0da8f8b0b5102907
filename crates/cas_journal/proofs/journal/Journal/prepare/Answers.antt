-- Room for a mutation, step by step.
use Rattle.std.proofs.Common.{◌<◌, ℕ, subst, refl}
use Rattle.cas_journal.specs.Stores.{committed_all}
use Rattle.cas_journal.proofs.Holding.{committed_few}
use Rattle.cas_journal.proofs.Reaching.{next_full}
use Rattle.cas_journal.proofs.Tables.{tables_more}
use Rattle.cas_journal.proofs.Rooms.{plain_leaves, behind_leaves, fitting_lasts, all_settled, made_behind}
use Rattle.cas_journal.proofs.journal.Journal.prepare.Goals as goal

pub returns-in_err-reserve-clause-free : goal.returns-in_err-reserve-clause-free
returns-in_err-reserve-clause-free g c x left n above = c.requires.free x left n (subst (λ (l : ℕ). l < n) c.reserve.ensures.last above)

pub settle-requires-clause-free : goal.settle-requires-clause-free
settle-requires-clause-free g c x left n above = c.requires.free x left n (subst (λ (l : ℕ). l < n) c.reserve.ensures.last above)

pub returns-in_err-settle-clause-during : goal.returns-in_err-settle-clause-during
returns-in_err-settle-clause-during g c t lasts =
    let disk = g.F.Folder.disk in
    plain_leaves t (disk c.args.folder.now) (disk c.settle.new.folder) (c.settle.ensures.during t (c.reserve.ensures.lasts t lasts))

pub returns-then-has_room-clause-lasts : goal.returns-then-has_room-clause-lasts
returns-then-has_room-clause-lasts g c t lasts =
    let disk = g.F.Folder.disk in
    let few = committed_few c.args.self.now (disk c.args.folder.now) t (lasts.goes c.in_ok-bytes.ensures.asks.1) in
    fitting_lasts c.settle.new.self c.in_ok-bytes.bytes (disk c.settle.new.folder) t few (c.in_ok-settle.ensures.lasts t (c.reserve.ensures.lasts t lasts))

pub returns-then-has_room-clause-during : goal.returns-then-has_room-clause-during
returns-then-has_room-clause-during g c t lasts =
    let disk = g.F.Folder.disk in
    plain_leaves t (disk c.args.folder.now) (disk c.settle.new.folder) (c.settle.ensures.during t (c.reserve.ensures.lasts t lasts))

pub returns-clause-lasts : goal.returns-clause-lasts
returns-clause-lasts g c t lasts =
    let disk = g.F.Folder.disk in
    let few = committed_few c.args.self.now (disk c.args.folder.now) t (lasts.goes c.in_ok-bytes.ensures.asks.1) in
    let settled = all_settled c.settle.new.self c.in_ok-bytes.bytes (disk c.settle.new.folder) t c.has_room.result c.has_room.ensures c.if-has_room.false
    (c.in_ok-settle.ensures.lasts t (c.reserve.ensures.lasts t lasts)) in
    let (u, made, now) = c.next_segment.ensures.lasts (committed_all t) settled refl in
    (u, made_behind t u few made, now)

pub returns-clause-during : goal.returns-clause-during
returns-clause-during g c t lasts =
    let disk = g.F.Folder.disk in
    let few = committed_few c.args.self.now (disk c.args.folder.now) t (lasts.goes c.in_ok-bytes.ensures.asks.1) in
    let settled = all_settled c.settle.new.self c.in_ok-bytes.bytes (disk c.settle.new.folder) t c.has_room.result c.has_room.ensures c.if-has_room.false
    (c.in_ok-settle.ensures.lasts t (c.reserve.ensures.lasts t lasts)) in
    behind_leaves t (disk c.args.folder.now) (disk c.settle.new.folder) (disk c.next_segment.new.folder) few
    (c.settle.ensures.during t (c.reserve.ensures.lasts t lasts)) (c.next_segment.ensures.during (committed_all t) settled refl)

pub returns-clause-full : goal.returns-clause-full
returns-clause-full g c what most told =
    next_full c.next_segment.new.self.spare c.next_segment.new.self what most (c.next_segment.ensures.limit what most told).0

pub returns-clause-tables : goal.returns-clause-tables
returns-clause-tables g c =
    let disk = g.F.Folder.disk in
    tables_more (disk c.args.folder.now) (disk c.settle.new.folder) (disk c.next_segment.new.folder) c.settle.ensures.tables c.next_segment.ensures.tables
