use Rattle.laws.specs.Span.{fold, every, upto}
use Rattle.config.specs.Ranges.{threshold_ok}
use mathlib.Core.Path.{◌≡◌}
use Rattle.config.proofs.ranges.Every.{along}
use Rattle.config.proofs.ranges.thresholds_ok.Given as goal

abbrev pub invariant-loop-l : goal.invariant-loop-l
invariant-loop-l l =
    every (threshold_ok l.m) (upto 0 17) ≡ fold (along (threshold_ok l.m)) l.ok (upto l.l 17)
