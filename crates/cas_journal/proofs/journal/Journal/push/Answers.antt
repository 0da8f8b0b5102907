-- A push, by the clauses of the log's.
use Rattle.std.proofs.Common.{refl, ◌∙◌}
use Rattle.cas_journal.proofs.Moving.{push_lasts}
use Rattle.cas_journal.proofs.journal.Journal.push.Goals as goal

pub returns-in-Some-clause-lasts : goal.returns-in-Some-clause-lasts
returns-in-Some-clause-lasts g c t lasts may =
    push_lasts c.args.self.now _ (g.F.Folder.disk c.args.folder.now) t c.args.mutation.now c.in-Some.log c.push.new.self c.in-Some.is refl c.push.ensures.place
    c.push.ensures.pushed refl refl refl
    (λ s parts ms was. (c.note.ensures.shards ∙ was.0, c.note.ensures.know t.found s.segments parts ms was.1)) refl lasts may
