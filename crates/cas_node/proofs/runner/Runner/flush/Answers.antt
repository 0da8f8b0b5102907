use Rattle.std.proofs.Common.{Ok, Err, Some, ap, ◌∙◌, refl}
use Rattle.cas_render.specs.declared.reply.Reply.TheVariants as reply
use Rattle.cas_lasting.proofs.Listing.{up_to_twice}
use Rattle.cas_node.specs.Lines.{lists_any}
use Rattle.cas_node.proofs.Answered.{flushed_alone, flushed_and_dropped}
use Rattle.cas_node.proofs.runner.Runner.flush.Goals as goal

pub returns-in-Ok-clause-flushes : goal.returns-in-Ok-clause-flushes
returns-in-Ok-clause-flushes g c = λ known.
    flushed_and_dropped _ _ _ _ c.args.name.now (Ok c.in-Ok.numbers.items) (c.in-Ok.ensures.flushes c.args.self.now.seconds known.0.0 known.0.1)
    _ (ap (λ files. Some (reply.Flushed files)) c.from_vec.ensures) _ _ _ (c.lists_any.ensures ∙ ap (λ l. lists_any (Ok l)) c.deref.ensures.value) c.drop_behind-want.ensures.drops

pub returns-in-Err-clause-flushes : goal.returns-in-Err-clause-flushes
returns-in-Err-clause-flushes g c = λ known.
    flushed_alone _ _ _ _ c.args.name.now (Err c.in-Err.fault) (c.in-Err.ensures.faults c.args.self.now.seconds known.0.0 known.0.1 known.1)
    _ (ap (λ o. o.reply) c.replied.ensures ∙ ap (λ r. Some r) c.reply_of.ensures) refl (ap (λ o. o.want) c.replied.ensures)

pub returns-in-Ok-clause-tables : goal.returns-in-Ok-clause-tables
returns-in-Ok-clause-tables g c = up_to_twice _ _ _ _ _ c.flush.ensures.last c.flush.ensures.tables c.drop_behind-want.ensures.tables
