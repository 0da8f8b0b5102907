use Rattle.std.proofs.Common.{map}
use Rattle.std.specs.Arc.{arc_value}
use Rattle.cas_memtable.specs.Memtables.{IsOfColumns}
use Rattle.cas_memtable.proofs.Keeping.{last_joined, last_of, joined_stands}
use Rattle.cas_memtable.proofs.parts.Parts.apply.Goals as goal

pub returns-clause-keeps : goal.returns-clause-keeps
returns-clause-keeps c order wss keeps are =
    last_joined order c.args.mutation (map arc_value c.args.self.now.frozen.items) c.args.self.now.active c.apply.new.self wss
    (λ ws stands. joined_stands order c.args.mutation c.args.self.now.active c.apply.new.self ws stands are c.apply.ensures) keeps

pub returns-clause-columns : goal.returns-clause-columns
returns-clause-columns c columns of fits =
    last_of (IsOfColumns columns) (map arc_value c.args.self.now.frozen.items) c.args.self.now.active c.apply.new.self
    (λ before. c.apply.ensures.fits columns before fits) of

pub returns-clause-bytes : goal.returns-clause-bytes
returns-clause-bytes c = c.apply.ensures.bytes
