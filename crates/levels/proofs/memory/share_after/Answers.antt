use Rattle.levels.specs.Memory.{share_after}
use Rattle.levels.proofs.memory.share_after.Goals as goal

pub returns-then-tried : goal.returns-then-tried
unfolding share_after
returns-then-tried c = simp (c.share.ensures, c.if-tried.true)

pub returns-else-tried : goal.returns-else-tried
unfolding share_after
returns-else-tried c = simp c.if-tried.false
