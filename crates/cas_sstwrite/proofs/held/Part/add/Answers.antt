use Rattle.std.proofs.Common.{◌++◌, sym, ap, subst, ◌∙◌, rules}
use Rattle.cas_facts.specs.Facts.{AreFactsSoFar}
use Rattle.cas_fragments.specs.Spelling.{fragment_bytes}
use Rattle.cas_streams.specs.Joined.{opened}
use Rattle.cas_sstwrite.specs.Rooms.{IsHeld}
use Rattle.cas_sstwrite.proofs.held.Part.add.Goals as goal

pub returns-clause-added : goal.returns-clause-added
returns-clause-added c =
    let f = c.args.fragment.now in
    let held : IsHeld f = search rules in
    record {
      held = held;
      buffer = c.in_ok-put_fragment.ensures.written ∙ ap (λ t. t ++ fragment_bytes f) c.in_ok-open_block.ensures.buffer;
      entries = c.in_ok-open_block.ensures.entries;
      force = c.opened-self.ensures ∙ ap (λ d. opened d f) c.open_block.ensures.force;
      seen = λ A h. c.see.ensures A (subst (λ s. AreFactsSoFar A s.facts) (sym c.open_block.ensures.seen) h);
    }
