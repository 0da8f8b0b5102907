use Rattle.std.proofs.Common.{◌≡◌, ◌+◌, ℕ, List, length, drop, Option, subst, arith}
use Rattle.std.proofs.lemmas.Result.{on_ok_weaker, IfErr-weaker}
use Rattle.cas_fragments.specs.Blocks.{behind_statics}
use Rattle.cas_cell.specs.declared.deletion.Deletion.{Deletion}
use Rattle.cas_streams.specs.declared.fragment.Fragment.{Fragment}
use Rattle.cas_facts.specs.declared.facts.Facts.{Facts}
use Rattle.cas_sstwrite.specs.declared.fault.WriteFault.{WriteFault}
use Rattle.cas_sstwrite.specs.declared.fault.WriteFault.TheVariants.{Failed}
use Rattle.cas_sstwrite.specs.declared.held.Part.{Part}
use Rattle.cas_sstwrite.specs.Inner.Sinks.{Took, LongFault}
use Rattle.cas_sstwrite.specs.Inner.Parts.{SealFault, Taken, Hinders}
use Rattle.cas_sstwrite.proofs.Results.{passed_on, another}
use Rattle.cas_sstwrite.proofs.Taking.{ends}
use Rattle.cas_sstwrite.proofs.Hindering.{hinder_seal, hinder_end}
use Rattle.cas_sstwrite.proofs.held.Part.end.Goals as goal

Why : Part → ℕ → WriteFault → Type 0
Why p place e =
    (start : ℕ) (before : Option Facts) (top : Option Deletion) (gs : List Fragment) (text : List ℕ) → Taken start before top gs p text
    → place ≡ start + length text → Hinders start (behind_statics gs) e

not_failed : (long : ℕ) (e : WriteFault) → SealFault long e → e ≡ Failed → ⊥
not_failed long e why is = subst (SealFault long) is why

pub returns-in_err-seal_end-clause-count : goal.returns-in_err-seal_end-clause-count
returns-in_err-seal_end-clause-count g c = record {
  kept = omega arith;
  rose = λ is. absurd (another c.from_residual.result c.in_err-seal_end.field-0.0 Failed c.from_residual.ensures.1
      (not_failed (length (drop 4 c.args.self.now.buffer.items)) c.in_err-seal_end.field-0.0 c.in_err-seal_end.ensures.why) is);
}

pub returns-in_err-seal_end-clause-why : goal.returns-in_err-seal_end-clause-why
unfolding Why
returns-in_err-seal_end-clause-why g c =
    passed_on c.from_residual.result c.in_err-seal_end.field-0.0 (Why c.args.self.now c.args.sink.now.place) c.from_residual.ensures.1
    (λ start before top gs text taken at.
    hinder_seal start before top gs c.args.self.now text c.in_err-seal_end.field-0.0 taken c.in_err-seal_end.ensures.why)

pub returns-clause-ended : goal.returns-clause-ended
returns-clause-ended g c =
    on_ok_weaker c.append.result (λ took start before top gs text taken at.
    ends g.D.Draft.number g.D.Draft.written start before top gs c.args.sink.now c.append.new.self c.args.self.now c.seal_end.new.self text taken at
    (omega arith)
    (subst (λ (xs : List ℕ). Took g.D.Draft.number g.D.Draft.written xs c.args.sink.now c.append.new.self) (cc (c.deref.ensures.value, c.in_ok-seal_end.ensures.sealed)) took)
    c.seal_end.ensures.entries c.seal_end.ensures.seen)
    c.append.ensures.took

pub returns-clause-why : goal.returns-clause-why
unfolding Why
returns-clause-why g c =
    IfErr-weaker c.append.result (λ e. LongFault c.args.sink.now.place (length c.deref.result.now) e) (Why c.args.self.now c.args.sink.now.place)
    (λ e why start before top gs text taken at.
    hinder_end start before top gs c.args.self.now text c.args.sink.now.place e taken at
    (subst (λ (xs : List ℕ). LongFault c.args.sink.now.place (length xs) e) (cc (c.deref.ensures.value, c.in_ok-seal_end.ensures.sealed)) why))
    c.append.ensures.why
