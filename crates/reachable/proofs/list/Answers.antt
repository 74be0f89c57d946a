use mathlib.Core.Path.{refl}
use native.Mathlib.Omega.{arith}
use Rattle.reachable.proofs.Steps.{filled_none, filled-hit, filled-miss, filled-as, filled-all}
use Rattle.reachable.proofs.list.Goals as goal
use Rattle.reachable.proofs.list.Goals.{then-k-lt-NO_Q, else-k-lt-NO_Q}

pub loop-l-init : goal.loop-l-init
loop-l-init c = (omega arith, filled_none _)

pub loop-l-preserved : goal.loop-l-preserved
loop-l-preserved c =
    let i = c.loop-l.invariant.1 in (
      elim c.if-k-lt-NO_Q.branch [ then-k-lt-NO_Q w ↦ omega arith | else-k-lt-NO_Q w ↦ omega arith ],
      elim c.if-k-lt-NO_Q.branch [
        | then-k-lt-NO_Q w ↦
            filled-as _ _ _ _ _ _ _ _ (filled-hit _ _ _ _ _ i (omega arith) (omega arith) _ refl (omega arith)) w.level-is w.q-is w.n-is
        | else-k-lt-NO_Q w ↦
            filled-as _ _ _ _ _ _ _ _ (filled-miss _ _ _ _ _ i (omega arith) (omega (arith, w.if-k-lt-NO_Q.false))) w.level-is w.q-is w.n-is
      ],
    )

pub returns : goal.returns
returns c = filled-all _ _ _ _ _ c.loop-l.invariant.1 (omega arith)
