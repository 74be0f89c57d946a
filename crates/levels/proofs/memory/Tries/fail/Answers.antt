use Rattle.levels.specs.Memory.{failed}
use Rattle.levels.proofs.memory.Tries.fail.Goals as goal

pub returns : goal.returns
unfolding failed
returns c = simp c.saturating_add.ensures
