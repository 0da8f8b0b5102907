use Rattle.std.proofs.Common.{refl, replicate}
use Rattle.std.proofs.lemmas.List.{get_or-replicate}
use Rattle.cas_history.proofs.Moves.{opens}
use Rattle.cas_history.proofs.opened.Opened.new.Goals as goal

pub of_words-requires : goal.of_words-requires
of_words-requires g c = opens g.E.Entries.rules (replicate 34 0) refl (λ w lt. get_or-replicate 34 w 0 0 lt)
