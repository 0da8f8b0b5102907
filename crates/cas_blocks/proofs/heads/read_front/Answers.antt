use Rattle.std.proofs.Common.{List, ℕ, subst, ◌∙◌}
use Rattle.cas_blocks.specs.Inner.Fronts.{FrontAnswers}
use Rattle.cas_blocks.proofs.heads.read_front.Goals as goal

pub returns-in-Ok-clause-told : goal.returns-in-Ok-clause-told
returns-in-Ok-clause-told g c = λ b is.
    subst (λ (t : List ℕ). FrontAnswers c.args.file.now.version c.args.file.now.columns.now (record { bytes = t; at = c.args.place }) c.parse_head.result)
    (c.deref.ensures.value ∙ c.in-Ok.ensures.bytes b is) c.parse_head.ensures.told

pub returns-in-Ok-clause-count : goal.returns-in-Ok-clause-count
returns-in-Ok-clause-count g c = record { kept = c.in-Ok.ensures.count.kept; rose = λ e. absurd (c.parse_head.ensures.no_read e) }
