use Rattle.laws.specs.Tests.{all}
use Rattle.config.specs.Ranges.{harq_ok}
use Rattle.config.proofs.ranges.harq_ok.Goals as goal

pub returns : goal.returns
unfolding all harq_ok
returns c = simp (c.ends_ok.ensures, c.from_to.ensures)
