use Rattle.std.proofs.Common.{◌≡◌, ◌≤◌, ◌-◌, length, drop}
use Rattle.cas_memtable.proofs.parts.Parts.forget.Given as goal

abbrev pub invariant-loop-gone : goal.invariant-loop-gone
invariant-loop-gone l =
    (l.gone ≤ l.count) × (l.count ≤ length l.fn.self.frozen.items) × (l.self.frozen.items ≡ drop l.gone l.fn.self.frozen.items) × (l.self.active ≡ l.fn.self.active)

abbrev pub decreases-loop-gone : goal.decreases-loop-gone
decreases-loop-gone l = l.count - l.gone
