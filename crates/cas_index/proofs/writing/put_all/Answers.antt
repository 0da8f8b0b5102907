use Rattle.std.proofs.Common.{◌≡◌, take, vec_len, arith}
use Rattle.cas_index.proofs.Lengths.{kept_of, on_err, on_any, index_long}
use Rattle.cas_index.proofs.writing.put_all.Goals as goal

pub returns-in_err-put_u32-clause-full : goal.returns-in_err-put_u32-clause-full
returns-in_err-put_u32-clause-full c =
    on_any c.from_residual.result _ (omega (arith, index_long c.args.partitions.now, c.in_err-put_u32.ensures.full))

pub returns-clause-kept : goal.returns-clause-kept
returns-clause-kept c =
    on_err c.put_partitions.result (take (vec_len c.put_u32.new.out) c.put_partitions.new.out.items ≡ c.put_u32.new.out.items)
    (take (vec_len c.args.out.now) c.put_partitions.new.out.items ≡ c.args.out.now.items)
    (λ kept. kept_of (vec_len c.args.out.now) (vec_len c.put_u32.new.out) c.put_partitions.new.out.items c.put_u32.new.out.items c.args.out.now.items _ kept
    c.in_ok-put_u32.ensures.written (omega (arith, c.args.out.now.ok)) (omega (arith, c.in_ok-put_u32.ensures.length)))
    c.put_partitions.ensures.kept
