use Rattle.std.proofs.Common.{◌≡◌, ◌+◌, ◌-◌, ◌≤◌}
use Rattle.laws.specs.Span.{upto, every}
use Rattle.levels.specs.Usable.{passes_at}
use Rattle.levels.proofs.usable.Holds.usable.Given as goal

abbrev pub invariant-loop-k : goal.invariant-loop-k
invariant-loop-k l =
    (every (passes_at l.self l.l l.now) (upto 0 (l.l + 1)) ≡ every (passes_at l.self l.l l.now) (upto l.k (l.l + 1))) × (l.k ≤ l.l + 1) × (l.k-end ≡ l.l + 1)

abbrev pub decreases-loop-k : goal.decreases-loop-k
decreases-loop-k l =
    l.l + 1 - l.k
