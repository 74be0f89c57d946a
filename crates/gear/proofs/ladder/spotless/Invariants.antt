use Rattle.gear.specs.Judging.{spotless}
use Rattle.laws.specs.Span.{upto, every}
use Rattle.std.proofs.Common.{◌≡◌, ◌+◌, ◌-◌, eqb, get_or}
use Rattle.gear.proofs.ladder.spotless.Given as goal

abbrev pub invariant-loop-k : goal.invariant-loop-k
invariant-loop-k l =
    (spotless l.tries l.one l.far ≡ every (λ j. eqb (get_or l.tries.fails j 0) 0) (upto l.k (l.far + 1))) × (l.k-end ≡ l.far + 1)

abbrev pub decreases-loop-k : goal.decreases-loop-k
decreases-loop-k l =
    l.far + 1 - l.k
