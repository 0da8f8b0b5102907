use Rattle.std.specs.List.{flat_map}
use Rattle.cas_verify.specs.Fields.{block_fields, head_fields}
use Rattle.cas_verify.proofs.Comparing.{then_gives, then_fault}
use Rattle.cas_verify.proofs.fields.Fields.partition.Goals as goal

pub returns-in-Ok : goal.returns-in-Ok
returns-in-Ok c =
    then_gives (head_fields c.args.partition.now) (flat_map block_fields c.args.partition.now.blocks) c.args.self.now.left c.head.new.self.left c.blocks-in-Ok.new.self.left
    c.blocks-in-Ok.result c.in-Ok.ensures (rw c.as_slice.ensures at c.blocks-in-Ok.ensures)

pub returns-in-Err : goal.returns-in-Err
returns-in-Err c =
    then_fault (head_fields c.args.partition.now) (flat_map block_fields c.args.partition.now.blocks) c.args.self.now.left c.head.new.self.left c.head.new.self.left
    c.in-Err.fault c.in-Err.ensures
