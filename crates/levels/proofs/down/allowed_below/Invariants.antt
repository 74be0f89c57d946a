use Rattle.std.proofs.Common.{◌≡◌}
use Rattle.laws.specs.Steps.{highest}
use Rattle.levels.specs.Usable.{family_ok, allowed_below}
use Rattle.levels.proofs.down.allowed_below.Given as goal

abbrev pub invariant-loop-k : goal.invariant-loop-k
invariant-loop-k l =
    allowed_below l.class l.at ≡ highest (family_ok l.class) l.k 0
