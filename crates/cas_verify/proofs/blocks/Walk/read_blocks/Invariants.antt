use Rattle.std.proofs.Common.{◌≡◌, ◌-◌, ◌≤◌, ℕ, List, Some, Result, length}
use Rattle.cas_bounds.specs.ClusteringOrder.{clustering_order}
use Rattle.cas_fragments.specs.Reading.{blocks_at}
use Rattle.cas_blocks.specs.Reading.{left_at}
use Rattle.cas_sstread.specs.declared.fault.TableFault.{TableFault}
use Rattle.cas_verify.specs.Inner.Ends.{Ends}
use Rattle.cas_verify.specs.Inner.Walks.{reached, IsSound, Went}
use Rattle.cas_verify.specs.declared.blocks.Walk.{Walk}
use Rattle.cas_verify.proofs.blocks.Walk.read_blocks.Given as goal

abbrev pub invariant-turns : goal.invariant-turns
invariant-turns g l = record {
  on : (b : List ℕ) → l.table.contents ≡ Some b → (n : ℕ) → length (left_at b l.table.kept.end l.fn.self.place).bytes ≤ n
      → (m : ℕ) × (length (left_at b l.table.kept.end l.self.place).bytes ≤ m) × ((r : Result (Unit {0}) TableFault) (x : Walk)
      → Ends (λ (u : Unit {0}). Went l.table.kept.end b l.self x) l.table.info.number r
      (blocks_at (clustering_order l.table.columns) l.table.columns m l.self.ends l.self.goes_on (reached l.self) (left_at b l.table.kept.end l.self.place))
      → Ends (λ (u : Unit {0}). Went l.table.kept.end b l.fn.self x) l.table.info.number r
      (blocks_at (clustering_order l.table.columns) l.table.columns n l.fn.self.ends l.fn.self.goes_on (reached l.fn.self)
      (left_at b l.table.kept.end l.fn.self.place)));
  sound : IsSound l.self;
  faults : g.F.Tally.Count.number l.fn.tally ≤ g.F.Tally.Count.number l.tally;
}

abbrev pub decreases-turns : goal.decreases-turns
decreases-turns g l = l.table.kept.end - l.self.place
