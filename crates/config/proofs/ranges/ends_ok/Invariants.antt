use Rattle.laws.specs.Span.{fold, every, upto}
use Rattle.config.specs.Ranges.{end_ok}
use mathlib.Core.Path.{◌≡◌}
use Rattle.config.proofs.ranges.Every.{along}
use Rattle.config.proofs.ranges.ends_ok.Given as goal

abbrev pub invariant-loop-i : goal.invariant-loop-i
invariant-loop-i l =
    every (end_ok l.q) (upto 0 6) ≡ fold (along (end_ok l.q)) l.ok (upto l.i 6)
