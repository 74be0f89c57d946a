-- The loop is a fold (`every-fold`): the invariant has the whole as the fold of what is left from what was found.
use Rattle.laws.proofs.Span.{fold-turn, fold_done}
use Rattle.config.specs.Durations.{slot_at, max_bits_at}
use Rattle.config.specs.Ranges.{level_ok}
use mathlib.Core.Bool.{Bool, ◌&&◌}
use mathlib.Core.Path.{sym, ap}
use native.Mathlib.Omega.{arith}
use Rattle.config.proofs.ranges.Every.{every-fold}
use Rattle.config.proofs.ranges.levels_of_air_ok.Goals as goal

pub loop-l-init : goal.loop-l-init
loop-l-init c = every-fold _ _

pub loop-l-preserved : goal.loop-l-preserved
unfolding level_ok slot_at max_bits_at
loop-l-preserved c =
    fold-turn _ _ _ _ _ _ c.loop-l.invariant (omega arith) (ap (λ (t : Bool). c.loop-l.ok && t) c.level_ok-ok.ensures)

pub returns : goal.returns
returns c = sym (fold_done _ _ _ _ _ c.loop-l.invariant (omega arith))
