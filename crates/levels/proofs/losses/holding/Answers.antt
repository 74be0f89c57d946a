use Rattle.levels.specs.Memory.{holding}
use Rattle.levels.proofs.losses.holding.Goals as goal

pub returns : goal.returns
unfolding holding
returns c = simp (c.wave_rank-2.ensures, c.wave_rank.ensures)
