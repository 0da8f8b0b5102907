use Rattle.std.proofs.Common.{◌≡◌, ◌+◌, ◌++◌, ◌∷◌, ℕ, List, length, drop, Option, arith}
use Rattle.std.proofs.lemmas.Result.{on_ok_weaker, IfErr-weaker}
use Rattle.cas_fragments.specs.Blocks.{behind_statics}
use Rattle.cas_sstwrite.specs.Inner.Parts.{BlockFault, Taken, Hinders}
use Rattle.cas_cell.specs.declared.deletion.Deletion.{Deletion}
use Rattle.cas_streams.specs.declared.fragment.Fragment.{Fragment}
use Rattle.cas_facts.specs.declared.facts.Facts.{Facts}
use Rattle.cas_sstwrite.specs.declared.fault.WriteFault.{WriteFault}
use Rattle.cas_sstwrite.proofs.Results.{passed_on}
use Rattle.cas_sstwrite.proofs.Taking.{goes_on, closes}
use Rattle.cas_sstwrite.proofs.Hindering.{hinder_add, hinder_block}
use Rattle.cas_sstwrite.specs.declared.held.Part.{Part}
use Rattle.cas_sstwrite.proofs.held.Part.take.Goals as goal

Why : Part → ℕ → Fragment → WriteFault → Type 0
Why p place f e =
    (start : ℕ) (before : Option Facts) (top : Option Deletion) (gs : List Fragment) (text : List ℕ) → Taken start before top gs p text
    → place ≡ start + length text → (rest : List Fragment) → Hinders start (behind_statics gs ++ f ∷ rest) e

pub returns-in_err-add-clause-why : goal.returns-in_err-add-clause-why
unfolding Why
returns-in_err-add-clause-why g c =
    passed_on c.from_residual.result c.in_err-add.field-0.0 (Why c.args.self.now c.args.sink.now.place c.args.fragment.now) c.from_residual.ensures.1
    (λ start before top gs text taken at rest. hinder_add start (behind_statics gs) c.args.fragment.now rest c.in_err-add.field-0.0 c.in_err-add.ensures.why)

pub returns-then-len-clause-taken : goal.returns-then-len-clause-taken
returns-then-len-clause-taken g c start before top gs text taken at =
    goes_on g.D.Draft.number g.D.Draft.written start before top gs c.args.sink.now c.args.self.now c.add.new.self c.args.fragment.now text taken at
    c.in_ok-add.ensures.added (omega (arith, c.len.ensures, c.add.new.self.buffer.ok.0))

pub returns-clause-taken : goal.returns-clause-taken
returns-clause-taken g c =
    on_ok_weaker c.write_block.result (λ closed start before top gs text taken at.
    closes g.D.Draft.number g.D.Draft.written start before top gs c.args.sink.now c.write_block.new.sink c.args.self.now c.add.new.self c.write_block.new.self
    c.args.fragment.now text taken at c.in_ok-add.ensures.added (omega (arith, c.len.ensures, c.add.new.self.buffer.ok.0)) closed)
    c.write_block.ensures.closed

pub returns-clause-why : goal.returns-clause-why
unfolding Why
returns-clause-why g c =
    IfErr-weaker c.write_block.result (λ e. BlockFault c.args.sink.now.place (length (drop 4 c.add.new.self.buffer.items)) e)
    (Why c.args.self.now c.args.sink.now.place c.args.fragment.now)
    (λ e why start before top gs text taken at rest.
    hinder_block start before top gs c.args.self.now c.add.new.self c.args.fragment.now text c.args.sink.now.place rest e taken at c.in_ok-add.ensures.added
    (omega (arith, c.len.ensures, c.add.new.self.buffer.ok.0)) why)
    c.write_block.ensures.why
