use Rattle.plan.proofs.Turns.{plan-none, plan-some}
use native.Mathlib.Omega.{arith}
use Rattle.plan.proofs.plan.Goals as goal

pub returns-then-n-eq0 : goal.returns-then-n-eq0
returns-then-n-eq0 c = plan-none _ _ _ _ c.parity-n.ensures.0 _ c.if-n-eq0.true (omega (arith, c.room.ensures.0, c.max-at_least.ensures))

pub returns : goal.returns
returns c =
    plan-some _ _ _ _ c.parity-n.ensures.0 _ _ c.if-n-eq0.false c.parity_bits-sum.ensures.0 c.room-r.ensures.0
