use Rattle.laws.specs.Tests.{all}
use Rattle.config.specs.Ranges.{sizes_ok}
use Rattle.config.proofs.ranges.sizes_ok.Goals as goal

pub returns : goal.returns
unfolding all sizes_ok
returns c = simp (c.from_to-2.ensures, c.from_to.ensures)
