use Rattle.std.proofs.Common.{◌∙◌, sym}
use Rattle.std.specs.Option.{option_copied}
use Rattle.cas_verify.specs.Inner.Scans.{next_head_at}
use Rattle.cas_verify.proofs.HeadLaws.{head_key}
use Rattle.cas_verify.proofs.heads.parse_front.Goals as goal

pub returns-clause-key : goal.returns-clause-key
returns-clause-key c =
    head_key c.args.version c.args.columns.now c.requires.narrow (option_copied c.args.before) c.args.bytes.now c.args.place
    (c.in_ok-head.head.key, c.in_ok-head.head.top, c.in_ok-head.head.columns) c.read_next_head.new.reader c.new-reader.ensures.are_bytes
    ((λ i. next_head_at c.args.version c.args.columns.now (option_copied c.args.before) (record { bytes = sym c.new-reader.ensures.bytes i; at = sym c.new-reader.ensures.at i }))
    ∙ c.in_ok-head.ensures)
