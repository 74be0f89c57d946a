-- The loop is a fold (`every-fold`): the invariant has the whole as the fold of what is left from what was found.
use Rattle.laws.proofs.Span.{fold-turn, fold_done}
use Rattle.config.proofs.ranges.Every.{every-fold}
use Rattle.soundness.specs.Soundness.{remembered_ok}
use mathlib.Core.Bool.{Bool, ◌&&◌}
use mathlib.Core.Path.{sym, ap}
use native.Mathlib.Omega.{arith}
use Rattle.soundness.proofs.fields.levels_ok.Goals as goal

pub loop-k-init : goal.loop-k-init
loop-k-init c = every-fold _ _

pub loop-k-preserved : goal.loop-k-preserved
unfolding remembered_ok
loop-k-preserved c =
    fold-turn _ _ _ _ _ _ c.loop-k.invariant (omega arith) (ap (λ (t : Bool). c.loop-k.ok && t) c.level_ok-ok.ensures)

pub returns : goal.returns
returns c = sym (fold_done _ _ _ _ _ c.loop-k.invariant (omega arith))
