-- At most 17 levels are held off. Assumes nothing.
use Rattle.std.proofs.Common.{ℕ, ◌≤◌}
use lib.Ieee.{Float}
use Rattle.laws.proofs.Span.{count-le}
use Rattle.levels.specs.declared.usable.Holds.{Holds}
use Rattle.levels.specs.Memory.{holding, others}

pub others-le : (h : Holds) (at : ℕ) (now : Float) → others h at now ≤ 17
unfolding others
others-le h at now = count-le (holding h at now) 0 17
