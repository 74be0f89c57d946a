use Rattle.laws.proofs.Picks.{picks}
use Rattle.level.specs.Ladder.{guard_ms}
use Rattle.level.proofs.guard_ms.Goals as goal

pub returns-in-0-to-2 : goal.returns-in-0-to-2
unfolding guard_ms
returns-in-0-to-2 c = search picks

pub returns-in-4 : goal.returns-in-4
unfolding guard_ms
returns-in-4 c = search picks

pub returns-in_default : goal.returns-in_default
unfolding guard_ms
returns-in_default c = search picks
