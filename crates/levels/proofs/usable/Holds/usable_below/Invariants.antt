use Rattle.levels.specs.Usable.{usable}
use Rattle.laws.specs.Steps.{highest}
use Rattle.std.proofs.Common.{◌≡◌, ◌+◌}
use Rattle.levels.proofs.usable.Holds.usable_below.Given as goal

abbrev pub invariant-loop-k : goal.invariant-loop-k
invariant-loop-k l =
    highest (usable l.self l.class l.now) (l.l + 1) 0 ≡ highest (usable l.self l.class l.now) l.k 0
