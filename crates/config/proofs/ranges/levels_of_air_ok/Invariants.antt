use Rattle.laws.specs.Span.{fold, every, upto}
use Rattle.config.specs.Ranges.{level_ok}
use mathlib.Core.Path.{◌≡◌}
use Rattle.config.proofs.ranges.Every.{along}
use Rattle.config.proofs.ranges.levels_of_air_ok.Given as goal

abbrev pub invariant-loop-l : goal.invariant-loop-l
invariant-loop-l l =
    every (level_ok l.a) (upto 0 17) ≡ fold (along (level_ok l.a)) l.ok (upto l.l 17)
