use Rattle.std.proofs.Common.{◌≡◌}
use Rattle.laws.specs.Steps.{highest}
use Rattle.levels.specs.Usable.{enough, level_for}
use Rattle.levels.proofs.reach.level_for.Given as goal

abbrev pub invariant-loop-l : goal.invariant-loop-l
invariant-loop-l l =
    level_for l.marks l.power l.class l.top l.snr_db ≡ highest (λ k. enough l.marks l.power l.class k l.snr_db) l.l 0
