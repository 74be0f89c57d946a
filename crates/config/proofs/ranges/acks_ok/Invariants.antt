use Rattle.laws.specs.Span.{fold, every, upto}
use Rattle.config.specs.Ranges.{ack_ok}
use mathlib.Core.Path.{◌≡◌}
use Rattle.config.proofs.ranges.Every.{along}
use Rattle.config.proofs.ranges.acks_ok.Given as goal

abbrev pub invariant-loop-w : goal.invariant-loop-w
invariant-loop-w l =
    every (ack_ok l.a) (upto 0 6) ≡ fold (along (ack_ok l.a)) l.ok (upto l.w 6)
