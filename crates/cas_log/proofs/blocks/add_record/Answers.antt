use Rattle.std.proofs.Common.{◌≡◌, ℕ, List, ◌++◌, length, take, drop, ◌+◌, ◌-◌, vec_len, ap, ◌∙◌, arith}
use Rattle.cas_mutations.specs.Spelling.{record_bytes}
use Rattle.cas_log.specs.Segment.{written}
use Rattle.cas_log.proofs.Adding.{records_added}
use Rattle.cas_log.proofs.blocks.add_record.Goals as goal

pub returns-clause-items : goal.returns-clause-items
returns-clause-items c records before is =
    let more = record_bytes c.args.mutation.now in
    let n = vec_len c.args.block.now - 1 in
    let long : length c.args.block.now.items ≡ n + 1 = omega (arith, c.args.block.now.ok, c.requires.headed) in
    let all : c.put_record.new.out.items ≡ take n c.args.block.now.items ++ more = c.in-Ok.ensures.written ∙ ap (λ (l : List ℕ). l ++ more) c.pop.ensures.rest in
    c.close.ensures.items ∙ ap (λ (l : List ℕ). written l c.args.count) (ap (λ (l : List ℕ). drop 8 l) all ∙ records_added records more c.args.block.now.items n before is long)
