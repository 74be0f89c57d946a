use Rattle.levels.specs.Usable.{nth_below}
use Rattle.levels.proofs.usable.Laws.{allowed-lt}
use Rattle.std.proofs.Common.{arith}
use Rattle.levels.proofs.down.nth_below.Goals as goal

pub allowed_below-requires : goal.allowed_below-requires
allowed_below-requires c = rw c.allowed_below-one.ensures (allowed-lt _ _ (omega arith))

pub returns-then-second : goal.returns-then-second
unfolding nth_below
returns-then-second c = simp (c.if-second.true, c.allowed_below.ensures, c.allowed_below-one.ensures)

pub returns-else-second : goal.returns-else-second
unfolding nth_below
returns-else-second c = simp (c.if-second.false, c.allowed_below-one.ensures)
