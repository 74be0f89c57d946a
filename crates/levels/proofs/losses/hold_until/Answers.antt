use Rattle.levels.specs.Memory.{held_until}
use Rattle.levels.proofs.losses.hold_until.Goals as goal

pub returns : goal.returns
unfolding held_until
returns c = simp c.max-until.ensures
