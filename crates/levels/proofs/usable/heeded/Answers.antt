use Rattle.levels.specs.Usable.{heeded}
use Rattle.laws.proofs.Picks.{picks}
use Rattle.levels.proofs.usable.heeded.Goals as goal

pub returns-then-pick_family : goal.returns-then-pick_family
unfolding heeded
returns-then-pick_family c = search picks

pub returns-else-pick_family : goal.returns-else-pick_family
unfolding heeded
returns-else-pick_family c = search picks
