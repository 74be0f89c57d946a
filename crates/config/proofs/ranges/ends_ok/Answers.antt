use Rattle.laws.proofs.Span.{fold-turn, fold_done}
use Rattle.config.specs.Ranges.{end_ok}
use mathlib.Core.Bool.{Bool, ◌&&◌}
use mathlib.Core.Path.{sym, ap}
use native.Mathlib.Omega.{arith}
use Rattle.config.proofs.ranges.Every.{every-fold}
use Rattle.config.proofs.ranges.ends_ok.Goals as goal

pub loop-i-init : goal.loop-i-init
loop-i-init c = every-fold _ _

pub loop-i-preserved : goal.loop-i-preserved
unfolding end_ok
loop-i-preserved c =
    fold-turn _ _ _ _ _ _ c.loop-i.invariant (omega arith) (ap (λ (t : Bool). c.loop-i.ok && t) c.from_to-ok.ensures)

pub returns : goal.returns
returns c = sym (fold_done _ _ _ _ _ c.loop-i.invariant (omega arith))
