use Rattle.laws.specs.Span.{upto, count}
use Rattle.std.proofs.Common.{◌≡◌, ◌+◌, ◌≤◌}
use Rattle.levels.specs.Memory.{others, holding}
use Rattle.levels.proofs.losses.others.Given as goal

abbrev pub invariant-loop-k : goal.invariant-loop-k
invariant-loop-k l =
    (others l.h l.at l.now ≡ l.n + count (holding l.h l.at l.now) (upto l.k 17)) × (l.n ≤ l.k)
