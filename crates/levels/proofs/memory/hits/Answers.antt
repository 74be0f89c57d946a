use Rattle.levels.specs.Memory.{hits}
use Rattle.levels.proofs.memory.hits.Goals as goal

pub returns : goal.returns
unfolding hits
returns c = simp (c.guard_ms-2.ensures, c.guard_ms.ensures, c.wave_rank-v.ensures, c.wave_rank-w.ensures)
