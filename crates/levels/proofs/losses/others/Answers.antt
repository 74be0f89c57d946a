use Rattle.laws.proofs.Span.{counted-hit, counted-miss, counted-end}
use Rattle.std.proofs.Common.{sym, arith}
use Rattle.levels.specs.Memory.{others}
use Rattle.laws.proofs.Picks.{told-yes, told-no}
use Rattle.levels.proofs.losses.others.Goals.{then-holding, else-holding}
use Rattle.levels.proofs.losses.others.Goals as goal

pub loop-k-init : goal.loop-k-init
unfolding others
loop-k-init c = (omega arith, omega arith)

pub loop-k-preserved : goal.loop-k-preserved
loop-k-preserved c =
    elim c.if-holding.branch [
      | then-holding w ↦ (rw w.n-is (counted-hit _ _ _ _ _ c.loop-k.invariant.0 (omega arith) (told-yes _ _ c.holding.ensures w.if-holding.true)), omega arith)
      | else-holding w ↦ (rw w.n-is (counted-miss _ _ _ _ _ c.loop-k.invariant.0 (omega arith) (told-no _ _ c.holding.ensures w.if-holding.false)), omega arith)
    ]

pub returns : goal.returns
returns c = sym (counted-end _ _ _ _ _ c.loop-k.invariant.0 (omega arith))
