-- `float::pick::clamp64` meets its contract: each way out is a case of the two tests. Assumes nothing.
use Rattle.float.specs.Pick.{clamp_f}
use Rattle.float.proofs.pick.clamp64.Goals as goal

pub returns-then-hi-lo : goal.returns-then-hi-lo
unfolding clamp_f
returns-then-hi-lo c = simp (c.if-x-lo.true, c.if-hi-lo.true)

pub returns-then-x-lo : goal.returns-then-x-lo
unfolding clamp_f
returns-then-x-lo c = simp (c.if-x-lo.true, c.if-hi-lo.false)

pub returns-then-hi-x : goal.returns-then-hi-x
unfolding clamp_f
returns-then-hi-x c = simp (c.if-x-lo.false, c.if-hi-x.true)

pub returns : goal.returns
unfolding clamp_f
returns c = simp (c.if-x-lo.false, c.if-hi-x.false)
