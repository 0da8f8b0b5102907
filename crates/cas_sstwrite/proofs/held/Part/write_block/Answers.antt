use Rattle.std.proofs.Common.{◌≡◌, ◌+◌, ◌++◌, length, drop, ap, ◌∙◌, arith}
use Rattle.std.proofs.lemmas.List.{length-append}
use Rattle.cas_codec.specs.Fields.{u32}
use Rattle.cas_codec.proofs.FieldLengths.{u32_long}
use Rattle.cas_sstwrite.specs.Inner.Parts.{BlockFault}
use Rattle.cas_sstwrite.proofs.Results.{passed_on}
use Rattle.cas_sstwrite.proofs.Hindering.{too_long}
use Rattle.cas_sstwrite.proofs.held.Part.write_block.Goals as goal

pub returns-in_err-append-clause-why : goal.returns-in_err-append-clause-why
returns-in_err-append-clause-why g c =
    let body = drop 4 c.args.self.now.buffer.items in
    let long : length c.deref.result.now ≡ 4 + length body =
    ap length (c.deref.ensures.value ∙ c.in_ok-seal.ensures.sealed.1)
    ∙ (let e : length (u32 (length body) ++ body) ≡ 4 + length body = omega (arith, length-append (u32 (length body)) body, u32_long (length body)) in e) in
    passed_on c.from_residual-in_err-append.result c.in_err-append.field-0.0 (λ e. BlockFault c.args.sink.now.place (length body) e)
    c.from_residual-in_err-append.ensures.1
    (too_long c.args.sink.now.place (length c.deref.result.now) (length body) c.in_err-append.field-0.0 long c.in_err-append.ensures.why)
