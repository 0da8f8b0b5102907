use Rattle.cas_partition.proofs.spots.Spots.lend.Goals as goal

pub returns : goal.returns
returns c = record { rows = c.self.inside.rows.entries; whole = c.self.invariant; are = c.self.view_is; is = c.lend.ensures }
