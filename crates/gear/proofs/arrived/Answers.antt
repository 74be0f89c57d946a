use Rattle.gear.specs.Judging.{arrived}
use Rattle.gear.proofs.arrived.Goals as goal

pub returns-then-burst : goal.returns-then-burst
unfolding arrived
returns-then-burst c = simp c.if-burst.true

pub returns-else-burst : goal.returns-else-burst
unfolding arrived
returns-else-burst c = simp c.if-burst.false
