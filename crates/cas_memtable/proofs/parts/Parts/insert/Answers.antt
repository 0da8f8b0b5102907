use Rattle.std.proofs.Common.{map}
use Rattle.std.specs.Arc.{arc_value}
use Rattle.cas_memtable.specs.Memtables.{IsOfColumns}
use Rattle.cas_memtable.proofs.Keeping.{inserted_bytes, inserted_fits, inserted_keeps, last_of}
use Rattle.cas_memtable.proofs.parts.Parts.insert.Goals as goal

pub returns-clause-keeps : goal.returns-clause-keeps
returns-clause-keeps c order wss keeps are =
    inserted_keeps c.args.mutation c.args.self.now.active c.insert.new.self c.insert.result order (map arc_value c.args.self.now.frozen.items) wss c.insert.ensures.joins
    c.insert.ensures.makes are keeps

pub returns-clause-columns : goal.returns-clause-columns
returns-clause-columns c columns of fit =
    last_of (IsOfColumns columns) (map arc_value c.args.self.now.frozen.items) c.args.self.now.active c.insert.new.self
    (inserted_fits c.args.mutation c.args.self.now.active c.insert.new.self c.insert.result columns c.insert.ensures.joins c.insert.ensures.makes fit) of

pub returns-clause-bytes : goal.returns-clause-bytes
returns-clause-bytes c =
    inserted_bytes c.args.mutation c.args.self.now.active c.insert.new.self c.insert.result c.insert.ensures.joins c.insert.ensures.makes
