use Rattle.std.proofs.Common.{◌≡◌, ◌-◌, ◌≤◌, ◌&&◌}
use Rattle.laws.specs.Span.{upto, first}
use Rattle.level.specs.Ladder.{long_frame}
use Rattle.levels.specs.Usable.{family_ok, lowest_long}
use Rattle.levels.proofs.down.lowest_long.Given as goal

abbrev pub invariant-loop-k : goal.invariant-loop-k
invariant-loop-k l =
    (lowest_long l.class l.at ≡ first (λ j. family_ok l.class j && long_frame j) 0 (upto l.k l.at)) × (l.k ≤ l.at)

abbrev pub decreases-loop-k : goal.decreases-loop-k
decreases-loop-k l =
    l.at - l.k
