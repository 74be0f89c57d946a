use Rattle.levels.specs.Rates.{frames_per_burst}
use Rattle.levels.proofs.rates.frames_of.Goals as goal

pub returns : goal.returns
unfolding frames_per_burst
returns c = simp c.max.ensures
