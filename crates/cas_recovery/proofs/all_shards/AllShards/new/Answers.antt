use Rattle.cas_recovery.proofs.all_shards.AllShards.new.Goals as goal

pub returns-in-Ok : goal.returns-in-Ok
returns-in-Ok g c = (c.in-Ok.ensures.no_files, λ tables count log. c.in-Ok.ensures.new tables, λ tables count log. c.in-Ok.ensures.memory tables, c.in-Ok.ensures.filled)
