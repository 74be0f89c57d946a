-- The loop is a fold (`every-fold`): the invariant has the whole as the fold of what is left from what was found.
use Rattle.laws.proofs.Span.{fold-turn, fold_done}
use lib.Ieee.{of_int, of_bits}
use Rattle.config.specs.Ranges.{ack_ok}
use Rattle.config.specs.Durations.{ack_at}
use mathlib.Core.Bool.{Bool, ◌&&◌}
use mathlib.Core.Path.{sym, ap}
use native.Mathlib.Omega.{arith}
use Rattle.config.proofs.ranges.Every.{every-fold}
use Rattle.config.proofs.ranges.acks_ok.Goals as goal

pub loop-w-init : goal.loop-w-init
loop-w-init c = every-fold _ _

pub loop-w-preserved : goal.loop-w-preserved
unfolding ack_ok ack_at of_int of_bits
loop-w-preserved c =
    fold-turn _ _ _ _ _ _ c.loop-w.invariant (omega arith) (ap (λ (t : Bool). c.loop-w.ok && t) c.within-ok.ensures)

pub returns : goal.returns
returns c = sym (fold_done _ _ _ _ _ c.loop-w.invariant (omega arith))
