use Rattle.laws.specs.Tests.{all}
use Rattle.config.specs.Ranges.{levels_ok}
use Rattle.config.proofs.ranges.levels_ok.Goals as goal

pub returns : goal.returns
unfolding all levels_ok
returns c = simp c.pin_ok.ensures
