use Rattle.std.proofs.Common.{◌≡◌, sym, ap, ◌∙◌}
use Rattle.cas_fragments.specs.Reading.{head_at}
use Rattle.cas_blocks.proofs.heads.parse_head.Goals as goal

pub returns-in-Ok-clause-told : goal.returns-in-Ok-clause-told
returns-in-Ok-clause-told g c =
    let here : record { bytes = c.args.bytes.now; at = c.args.place } ≡ c.new-reader.result =
    λ i. record { bytes = sym c.new-reader.ensures.bytes i; at = sym c.new-reader.ensures.at i } in
    (c.new-reader.ensures.are_bytes, (c.read_head.new.reader, ap (head_at c.args.file.now.version c.args.file.now.columns.now) here ∙ c.in-Ok.ensures))
