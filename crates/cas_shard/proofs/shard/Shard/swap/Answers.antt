use Rattle.std.proofs.Common.{ap, ◌∙◌, subst}
use Rattle.std.specs.Prelude.{slice_get}
use Rattle.std.specs.Arc.{arc_value}
use Rattle.cas_shard.specs.Flushing.{bytes_at}
use Rattle.cas_shard.specs.Stands.{ShardState}
use Rattle.cas_shard.specs.Inner.Stores.{Swaps}
use Rattle.cas_shard.proofs.Swapping.{as_emptied, as_swapped}
use Rattle.cas_shard.proofs.shard.Shard.swap.Goals as goal

pub returns-clause-stands : goal.returns-clause-stands
returns-clause-stands g c tables s f grown says h =
    as_swapped tables s c.args.self.now _ c.args.table c.args.count (arc_value c.args.view) f grown says h
    (subst (λ x. Swaps c.args.table c.args.count (arc_value c.args.view) x.stores c.swap.new.stores.items) c.self.view_is c.swap.ensures) (ap (λ x. x.number) c.self.view_is)
    (ap (λ x. x.drawn) c.self.view_is) (ap (λ x. x.moment) c.self.view_is)

pub returns-clause-emptied : goal.returns-clause-emptied
returns-clause-emptied g c tables ws all none h =
    as_emptied tables c.args.self.now c.swap.new.stores.items c.args.table c.args.count (arc_value c.args.view) ws
    (subst (λ x. Swaps c.args.table c.args.count (arc_value c.args.view) x.stores c.swap.new.stores.items) c.self.view_is c.swap.ensures) all none h

pub returns-clause-bytes : goal.returns-clause-bytes
returns-clause-bytes g c n = c.swap.ensures.bytes n ∙ ap (λ (x : ShardState). bytes_at (slice_get x.stores n)) c.self.view_is
