use Rattle.laws.proofs.Span.{fold-turn, fold_done}
use Rattle.config.specs.Ranges.{threshold_ok}
use mathlib.Core.Bool.{Bool, ◌&&◌}
use mathlib.Core.Path.{sym, ap}
use native.Mathlib.Omega.{arith}
use Rattle.config.proofs.ranges.Every.{every-fold}
use Rattle.config.proofs.ranges.thresholds_ok.Goals as goal

pub loop-l-init : goal.loop-l-init
loop-l-init c = every-fold _ _

pub loop-l-preserved : goal.loop-l-preserved
unfolding threshold_ok
loop-l-preserved c =
    fold-turn _ _ _ _ _ _ c.loop-l.invariant (omega arith) (ap (λ (t : Bool). c.loop-l.ok && t) c.db_ok-ok.ensures)

pub returns : goal.returns
returns c = sym (fold_done _ _ _ _ _ c.loop-l.invariant (omega arith))
