use Rattle.std.proofs.Common.{[], ◌∷◌, length}
use Rattle.std.specs.List.{flat_map}
use Rattle.cas_codec.specs.Fields.{u32}
use Rattle.cas_verify.specs.Fields.{partition_fields}
use Rattle.cas_verify.proofs.Comparing.{then_gives, then_fault}
use Rattle.cas_verify.proofs.fields.Fields.index.Goals as goal

pub returns-in-Ok : goal.returns-in-Ok
returns-in-Ok c =
    then_gives (u32 (length c.args.partitions.now) ∷ []) (flat_map partition_fields c.args.partitions.now) c.args.self.now.left c.count.new.self.left
    c.partitions.new.self.left c.partitions.result c.in-Ok.ensures c.partitions.ensures

pub returns-in-Err : goal.returns-in-Err
returns-in-Err c =
    then_fault (u32 (length c.args.partitions.now) ∷ []) (flat_map partition_fields c.args.partitions.now) c.args.self.now.left c.count.new.self.left
    c.count.new.self.left c.in-Err.fault c.in-Err.ensures
