use Rattle.std.proofs.Common.{◌||◌, ◌==◌, ◌<◌, ℕ, sym, ap, ◌∙◌, arith}
use Rattle.std.proofs.lemmas.List.Elements.{All-same}
use Rattle.cas_filter.specs.Filters.{is_set}
use Rattle.cas_filter.proofs.FilterLaws.{one_probe_more, all_probes, added}
use Rattle.cas_filter.proofs.filter.Filter.add.Goals as goal

pub loop-number-preserved : goal.loop-number-preserved
loop-number-preserved c = record {
  long = c.set.ensures.length ∙ c.loop-number.invariant.long;
  bits = one_probe_more c.args.self.now c.loop-number.self c.set.new.self c.bits-bits.result c.hash-hash.result c.loop-number.number
      c.loop-number.invariant.bits
      (λ p. c.set.ensures.bits p ∙ ap (λ (q : ℕ). is_set c.loop-number.self p || (q == p)) c.probe.ensures.value);
}

pub returns-clause-bits : goal.returns-clause-bits
returns-clause-bits c =
    all_probes c.args.self.now c.loop-number.self c.args.key.now c.bits-bits.result c.hash-hash.result c.loop-number.number
    c.bits-bits.ensures.bits c.hash-hash.ensures (omega arith) c.loop-number.invariant.bits

pub returns-clause-added : goal.returns-clause-added
returns-clause-added c =
    λ keys. added c.args.self.now c.loop-number.self c.args.key.now keys c.loop-number.invariant.long
    (All-same (λ b. b < 256) c.loop-number.self c.deref.result.now (sym c.self-2.view_is ∙ sym c.deref.ensures.value) c.know_bytes.ensures)
    (returns-clause-bits c)
