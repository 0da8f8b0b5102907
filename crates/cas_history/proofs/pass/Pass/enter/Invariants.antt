use Rattle.std.specs.Prelude.{[], ◌∷◌}
use Rattle.cas_history.proofs.pass.Pass.enter.Given as goal

abbrev pub ghosts-enter_picked : goal.ghosts-enter_picked
ghosts-enter_picked g a = record { added = g.T.Tells.entry a.entry.now ∷ [] }
