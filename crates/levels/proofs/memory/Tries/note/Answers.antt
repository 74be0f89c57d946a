use Rattle.levels.specs.Memory.{noted}
use Rattle.levels.proofs.memory.Tries.note.Goals as goal

pub returns : goal.returns
unfolding noted
returns c = simp c.share_after-share.ensures
