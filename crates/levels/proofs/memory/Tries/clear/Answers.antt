use Rattle.levels.specs.Memory.{cleared}
use Rattle.std.proofs.Common.{rules}
use Rattle.levels.proofs.memory.Tries.clear.Goals as goal

pub returns : goal.returns
unfolding cleared
returns c = search rules
