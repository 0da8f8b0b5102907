use Rattle.std.proofs.Common.{ap, inr, refl}
use Rattle.cas_render.specs.declared.reply.Reply.TheVariants as reply
use Rattle.cas_node.proofs.runner.Runner.status.Goals as goal

pub returns-in-Ok : goal.returns-in-Ok
returns-in-Ok g c = λ h stands.
    inr (
      ap (λ tables. reply.Status tables)
          (c.in-Ok.ensures c.args.self.now.session.seat.list c.args.self.now.session.seat.calls c.args.self.now.seconds h stands),
      refl,
    )
