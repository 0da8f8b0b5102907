use Rattle.std.proofs.Common.{map}
use Rattle.std.specs.Arc.{arc_value}
use Rattle.cas_memtable.specs.Memtables.{IsOfColumns}
use Rattle.cas_memtable.proofs.Keeping.{last_kept, last_of, made_stands}
use Rattle.cas_memtable.proofs.parts.Parts.reserve.Goals as goal

pub returns-clause-keeps : goal.returns-clause-keeps
returns-clause-keeps c order wss keeps are =
    last_kept order (map arc_value c.args.self.now.frozen.items) c.args.self.now.active c.reserve.new.self wss
    (λ ws stands. made_stands order c.args.mutation.now c.args.self.now.active c.reserve.new.self ws stands are c.reserve.ensures.makes) keeps

pub returns-clause-columns : goal.returns-clause-columns
returns-clause-columns c columns of fits =
    last_of (IsOfColumns columns) (map arc_value c.args.self.now.frozen.items) c.args.self.now.active c.reserve.new.self
    (λ before. c.reserve.ensures.makes.fits columns before fits) of

pub returns-clause-bytes : goal.returns-clause-bytes
returns-clause-bytes c = c.reserve.ensures.makes.bytes
